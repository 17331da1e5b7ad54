use Rattle.std.proofs.Common.{◌≡◌, ◌∷◌, [], ◌++◌, ℕ, List, Ok, Err, refl, sym, subst, ap, arith}
use Rattle.cf_outside.specs.Faults.{Rose}
use Rattle.cf_outside.specs.Files.{Content}
use Rattle.cf_outside.proofs.Frames.{reads_none, reads_on}
use Rattle.cf_records.proofs.Behind.{StandsBehind, first_near, stands_cut, stands_end, stands_large, stands_long, stands_refused}
use Rattle.cf_records.specs.Capture.{Cut, FileEnd, Large, LastPlace, Refused, TooLong}
use Rattle.cf_records.specs.Reader.{FindsRecord, ReaderValue}
use Rattle.cf_records.specs.declared.NextRecord.TheVariants as next
use Rattle.cf_ending.specs.Captures.{block_refusal}
use Rattle.cf_ending.specs.PacketLine.{dropped_in, record_line}
use Rattle.cf_ending.specs.declared.CaptureRefusal.TheVariants as refusal
use Rattle.cf_ending.specs.declared.Done.TheVariants as done
use Rattle.cf_ending.specs.declared.Stop.TheVariants as stop
use Rattle.cf_box.proofs.Listing.{block_answers, ends_unput, finished, finished_partly, more_put, none_listed, not_read, one_listed}
use Rattle.cf_box.proofs.packets.list_records.Goals as goal

-- where a capture is cut
abbrev the_last : ℕ → LastPlace
the_last place = record { place = place; found = Cut }

pub records-init : goal.records-init
records-init g c = record {
  listed = none_listed c.requires.form c.requires.place c.new-lines.ensures;
  near = first_near c.args.reader.now.form c.args.reader.now.place c.requires.place;
  few = omega arith;
  fewer = omega arith;
  reads = reads_none c.args.name.now g.F.Files.content g.F.Files.read_faults g.F.Files.write_faults c.args.files.now;
  puts = omega arith;
}

pub records-preserved : goal.records-preserved
records-preserved g c =
    let now = g.O.Sink.text c.make_room.new.out in
    let before = c.records.invariant in
    let read = c.in-Whole.ensures in
    let (some, first, put) = c.in-Done.ensures.kept refl in
    let stamp = c.in-Whole.stamp in
    let reader : ReaderValue = c.next.new.self in
    let found : FindsRecord (g.F.Files.content c.args.files.now c.args.name.now) c.records.reader reader (next.Whole stamp) =
    subst (λ (content : List ℕ → Content). FindsRecord (content c.args.name.now) c.records.reader reader (next.Whole stamp)) before.reads.same read.found in
    let with_line : List ℕ → Type 0 = λ line. c.gather_line-dropped.new.lines.items ≡ c.make_room.new.lines.items ++ line in
    let line : with_line (record_line c.records.number (record { stamp = stamp; link = reader.link; body = reader.body })) =
    subst (λ l. with_line (record_line c.records.number (record { stamp = stamp; link = l; body = reader.body }))) c.link.ensures
    (subst (λ b. with_line (record_line c.records.number (record { stamp = stamp; link = c.link.result; body = b }))) c.body.ensures c.gather_line-dropped.ensures.line) in
    let count : c.gather_line-dropped.result ≡ dropped_in (record { stamp = stamp; link = reader.link; body = reader.body } ∷ []) =
    subst (λ l. c.gather_line-dropped.result ≡ dropped_in (record { stamp = stamp; link = l; body = reader.body } ∷ [])) c.link.ensures
    (subst (λ b. c.gather_line-dropped.result ≡ dropped_in (record { stamp = stamp; link = c.link.result; body = b } ∷ [])) c.body.ensures c.gather_line-dropped.ensures.dropped) in
    record {
      listed = one_listed (more_put before.listed some first put) reader stamp found line count;
      near = read.near;
      few = omega (arith, before.few, read.on);
      fewer = omega (arith, before.fewer, c.gather_line-dropped.ensures.one);
      reads = reads_on before.reads read.reads (λ none. absurd none);
      puts = omega (arith, before.puts, c.in-Done.ensures.cause.later);
    }

pub returns-in-Failed-make_room-clause-lists : goal.returns-in-Failed-make_room-clause-lists
returns-in-Failed-make_room-clause-lists g c =
    let before = c.records.invariant in
    let rose : Rose (g.O.Sink.faults c.records.out) (g.O.Sink.faults c.make_room.new.out) = c.in-Failed-make_room.ensures.cause.rose refl in
    ends_unput before.listed (omega (arith, before.puts, rose)) (c.in-Failed-make_room.ensures.partly refl)

pub returns-in-End-clause-lists : goal.returns-in-End-clause-lists
returns-in-End-clause-lists g c =
    let before = c.records.invariant in
    let stands = subst (λ (content : List ℕ → Content). StandsBehind (content c.args.name.now) c.records.reader c.next.new.self.place FileEnd) before.reads.same
    (stands_end (g.F.Files.content c.records.files c.args.name.now) c.records.reader c.next.new.self c.in-End.ensures.found) in
    finished before.listed c.finish.result (Ok (done.Listed c.records.dropped)) c.next.new.self.place FileEnd stands tt (λ put. (ap (λ n. done.Listed n) before.listed.are_dropped, refl, put)) (λ rose. omega (arith, before.puts, rose)) c.finish.ensures.ends

pub returns-in-End-clause-reads : goal.returns-in-End-clause-reads
returns-in-End-clause-reads g c = reads_on c.records.invariant.reads c.in-End.ensures.reads (λ is. absurd (not_read c.finish.result (Ok (done.Listed c.records.dropped)) c.finish.ensures.ends (λ e. cc e) is))

pub returns-in-Cut-clause-lists : goal.returns-in-Cut-clause-lists
returns-in-Cut-clause-lists g c =
    let before = c.records.invariant in
    let stands = subst (λ (content : List ℕ → Content). StandsBehind (content c.args.name.now) c.records.reader c.next.new.self.place Cut) before.reads.same
    (stands_cut (g.F.Files.content c.records.files c.args.name.now) c.records.reader c.next.new.self c.in-Cut.ensures.found) in
    finished before.listed c.finish-in-Cut.result (Err (stop.CaptureCut c.place.result)) c.next.new.self.place Cut stands tt (λ put. (ap (λ (n : ℕ). the_last n) (sym c.place.ensures), put)) (λ rose. omega (arith, before.puts, rose)) c.finish-in-Cut.ensures.ends

pub returns-in-Cut-clause-reads : goal.returns-in-Cut-clause-reads
returns-in-Cut-clause-reads g c = reads_on c.records.invariant.reads c.in-Cut.ensures.reads (λ is. absurd (not_read c.finish-in-Cut.result (Err (stop.CaptureCut c.place.result)) c.finish-in-Cut.ensures.ends (λ e. cc e) is))

pub returns-in-Refused-clause-lists : goal.returns-in-Refused-clause-lists
returns-in-Refused-clause-lists g c =
    let before = c.records.invariant in
    let of = c.in-Refused.refusal in
    let stands = subst (λ (content : List ℕ → Content). StandsBehind (content c.args.name.now) c.records.reader c.next.new.self.place (Refused of)) before.reads.same
    (stands_refused (g.F.Files.content c.records.files c.args.name.now) c.records.reader c.next.new.self of c.in-Refused.ensures.found) in
    finished before.listed c.finish-in-Refused.result (Err (stop.CaptureRefused (block_refusal of))) c.next.new.self.place (Refused of) stands tt
    (λ put. block_answers of before.listed.records (record { place = c.next.new.self.place; found = Refused of }) (g.O.Sink.text c.args.out.now) _
    (Rose (g.O.Sink.faults c.args.out.now) (g.O.Sink.faults c.finish-in-Refused.new.out)) refl put)
    (λ rose. omega (arith, before.puts, rose)) (rw c.from.ensures at c.finish-in-Refused.ensures.ends)

pub returns-in-Refused-clause-reads : goal.returns-in-Refused-clause-reads
returns-in-Refused-clause-reads g c = reads_on c.records.invariant.reads c.in-Refused.ensures.reads (λ is. absurd (not_read c.finish-in-Refused.result (Err c.from.result) c.finish-in-Refused.ensures.ends (λ e. let of = c.from.ensures in cc (e, of)) is))

pub returns-in-TooLong-clause-lists : goal.returns-in-TooLong-clause-lists
returns-in-TooLong-clause-lists g c =
    let before = c.records.invariant in
    let stands = subst (λ (content : List ℕ → Content). StandsBehind (content c.args.name.now) c.records.reader c.next.new.self.place TooLong) before.reads.same
    (stands_long (g.F.Files.content c.records.files c.args.name.now) c.records.reader c.next.new.self c.in-TooLong.ensures.found) in
    finished before.listed c.finish-in-TooLong.result (Err (stop.CaptureRefused refusal.TooLong)) c.next.new.self.place TooLong stands tt (λ put. (refl, put)) (λ rose. omega (arith, before.puts, rose)) c.finish-in-TooLong.ensures.ends

pub returns-in-TooLong-clause-reads : goal.returns-in-TooLong-clause-reads
returns-in-TooLong-clause-reads g c = reads_on c.records.invariant.reads c.in-TooLong.ensures.reads (λ is. absurd (not_read c.finish-in-TooLong.result (Err (stop.CaptureRefused refusal.TooLong)) c.finish-in-TooLong.ensures.ends (λ e. cc e) is))

pub returns-in-Large-clause-lists : goal.returns-in-Large-clause-lists
returns-in-Large-clause-lists g c =
    let before = c.records.invariant in
    let stands = subst (λ (content : List ℕ → Content). StandsBehind (content c.args.name.now) c.records.reader c.next.new.self.place Large) before.reads.same
    (stands_large (g.F.Files.content c.records.files c.args.name.now) c.records.reader c.next.new.self c.in-Large.ensures.found) in
    finished before.listed c.finish-in-Large.result (Err (stop.CaptureRefused refusal.Large)) c.next.new.self.place Large stands tt (λ put. (refl, put)) (λ rose. omega (arith, before.puts, rose)) c.finish-in-Large.ensures.ends

pub returns-in-Large-clause-reads : goal.returns-in-Large-clause-reads
returns-in-Large-clause-reads g c = reads_on c.records.invariant.reads c.in-Large.ensures.reads (λ is. absurd (not_read c.finish-in-Large.result (Err (stop.CaptureRefused refusal.Large)) c.finish-in-Large.ensures.ends (λ e. cc e) is))

pub returns-in-Failed-clause-lists : goal.returns-in-Failed-clause-lists
returns-in-Failed-clause-lists g c =
    let before = c.records.invariant in
    finished_partly before.listed c.finish-in-Failed.result (λ rose. omega (arith, before.puts, rose)) c.finish-in-Failed.ensures.ends

pub returns-in-Failed-clause-reads : goal.returns-in-Failed-clause-reads
returns-in-Failed-clause-reads g c = reads_on c.records.invariant.reads c.in-Failed.ensures.reads (λ is. refl)
