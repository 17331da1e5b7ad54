use Rattle.std.specs.Result.{IsErrOf}
use Rattle.std.proofs.Common.{◌∷◌, ℕ, Err, List, Ok, subst, sym, refl, arith}
use Rattle.cf_outside.specs.Files.{Content}
use Rattle.cf_outside.proofs.Frames.{reads_none, reads_on}
use Rattle.cf_records.proofs.Behind.{StandsBehind, stands_cut, stands_end, stands_large, stands_long, stands_refused}
use Rattle.cf_records.specs.Capture.{Cut, FileEnd, Large, Refused, TooLong}
use Rattle.cf_records.specs.Reader.{FindsRecord, ReaderValue}
use Rattle.cf_records.specs.declared.NextRecord.TheVariants as next
use Rattle.cf_watch.specs.Recorded.{IsReadTo, StopsAs}
use Rattle.cf_watch.specs.Watch.{kinds_by}
use Rattle.cf_watch.specs.declared.fault.WatchFault.{WatchFault}
use Rattle.cf_watch.specs.declared.fault.WatchFault.TheVariants as fault
use Rattle.cf_watch.specs.declared.fault.WatchRefusal.{WatchRefusal}
use Rattle.cf_watch.proofs.Lengths.{read_inside}
use Rattle.cf_watch.proofs.SoFar.{is_capture, large_stops, read_to, so_far_first, so_far_on}
use Rattle.cf_watch.proofs.hearing.hear_records.Goals as goal

pub records-init : goal.records-init
records-init g c = record {
  so = so_far_first (g.H.Hearer.has_heard c.args.scope c.args.assets.now) c.args.scope (g.F.Files.content c.args.files.now c.args.capture.now) c.args.reader.now c.args.hearer.now c.requires.form c.requires.place;
  reads = reads_none c.args.capture.now g.F.Files.content g.F.Files.read_faults g.F.Files.write_faults c.args.files.now;
}

pub records-preserved : goal.records-preserved
records-preserved g c =
    let before = c.records.invariant in
    let read = c.in-Whole.ensures in
    let stamp = c.in-Whole.stamp in
    let reader : ReaderValue = c.next.new.self in
    let found : FindsRecord (g.F.Files.content c.args.files.now c.args.capture.now) c.records.reader reader (next.Whole stamp) =
    subst (λ (content : List ℕ → Content). FindsRecord (content c.args.capture.now) c.records.reader reader (next.Whole stamp)) before.reads.same read.found in
    record {
      so = so_far_on before.so reader stamp c.take.new.self found
          (λ newest is.
          subst (λ l. g.H.Hearer.has_heard c.args.scope c.args.assets.now (record { stamp = stamp; link = l; body = reader.body } ∷ newest) c.take.new.self) c.link-link.ensures
          (subst (λ b. g.H.Hearer.has_heard c.args.scope c.args.assets.now (record { stamp = stamp; link = c.link-link.result; body = b } ∷ newest) c.take.new.self) c.body.ensures
          (c.in-Ok.ensures newest is)));
      reads = reads_on before.reads read.reads (λ none. absurd none);
    }

pub returns-then-is_beyond-clause-fault : goal.returns-then-is_beyond-clause-fault
returns-then-is_beyond-clause-fault g c =
    let before = c.records.invariant in
    let stamp = c.in-Whole.stamp in
    let found : FindsRecord (g.F.Files.content c.args.files.now c.args.capture.now) c.records.reader c.next.new.self (next.Whole stamp) =
    subst (λ (content : List ℕ → Content). FindsRecord (content c.args.capture.now) c.records.reader c.next.new.self (next.Whole stamp)) before.reads.same c.in-Whole.ensures.found in (
      c.if-is_beyond.ensures.connections refl,
      read_inside (g.F.Files.content c.args.files.now c.args.capture.now) c.records.reader c.next.new.self stamp 67108864 found
          (let beyond = c.if-is_beyond.ensures.beyond refl in omega (arith, beyond, c.place.ensures)),
    )

pub returns-in-End-clause-more : goal.returns-in-End-clause-more
returns-in-End-clause-more g c =
    let before = c.records.invariant in
    let stands = subst (λ (content : List ℕ → Content). StandsBehind (content c.args.capture.now) c.records.reader c.next.new.self.place FileEnd) before.reads.same
    (stands_end (g.F.Files.content c.records.files c.args.capture.now) c.records.reader c.next.new.self c.in-End.ensures.found) in
    (before.so.newest, is_capture before.so c.next.new.self.place stands, before.so.more)

pub returns-in-Cut-clause-fault : goal.returns-in-Cut-clause-fault
returns-in-Cut-clause-fault g c =
    let before = c.records.invariant in
    let stands = subst (λ (content : List ℕ → Content). StandsBehind (content c.args.capture.now) c.records.reader c.next.new.self.place Cut) before.reads.same
    (stands_cut (g.F.Files.content c.records.files c.args.capture.now) c.records.reader c.next.new.self c.in-Cut.ensures.found) in
    subst (IsReadTo (kinds_by c.args.scope) (g.F.Files.content c.args.files.now c.args.capture.now) Cut) (sym c.place-in-Cut.ensures) (read_to before.so c.next.new.self.place Cut stands tt)

pub returns-in-Refused-clause-fault : goal.returns-in-Refused-clause-fault
returns-in-Refused-clause-fault g c =
    let before = c.records.invariant in
    let of = c.in-Refused.refusal in
    let stands = subst (λ (content : List ℕ → Content). StandsBehind (content c.args.capture.now) c.records.reader c.next.new.self.place (Refused of)) before.reads.same
    (stands_refused (g.F.Files.content c.records.files c.args.capture.now) c.records.reader c.next.new.self of c.in-Refused.ensures.found) in
    (c.next.new.self.place, read_to before.so c.next.new.self.place (Refused of) stands tt)

pub returns-in-TooLong-clause-fault : goal.returns-in-TooLong-clause-fault
returns-in-TooLong-clause-fault g c =
    let before = c.records.invariant in
    let stands = subst (λ (content : List ℕ → Content). StandsBehind (content c.args.capture.now) c.records.reader c.next.new.self.place TooLong) before.reads.same
    (stands_long (g.F.Files.content c.records.files c.args.capture.now) c.records.reader c.next.new.self c.in-TooLong.ensures.found) in
    (c.next.new.self.place, read_to before.so c.next.new.self.place TooLong stands tt)

pub returns-in-Large-clause-fault : goal.returns-in-Large-clause-fault
returns-in-Large-clause-fault g c =
    let before = c.records.invariant in
    let stands = subst (λ (content : List ℕ → Content). StandsBehind (content c.args.capture.now) c.records.reader c.next.new.self.place Large) before.reads.same
    (stands_large (g.F.Files.content c.records.files c.args.capture.now) c.records.reader c.next.new.self c.in-Large.ensures.found) in
    subst (λ (w : WatchRefusal). StopsAs c.args.scope (g.F.Files.content c.args.files.now c.args.capture.now) (fault.Refused w)) (sym c.large_by.ensures)
    (large_stops before.so c.next.new.self.place stands c.in-Large.ensures.near)

-- ---- what was read, and no more

-- none of these answers tells of a failed read
ended_else : {A : Type 0} → IsErrOf {T = Unit {0}} {E = WatchFault} (Ok tt) fault.Read → A
ended_else e = absurd cc

memory_else : {A : Type 0} → IsErrOf {T = Unit {0}} (Err fault.NoMemory) fault.Read → A
memory_else e = absurd cc

cut_else : {A : Type 0} {at : ℕ} → IsErrOf {T = Unit {0}} (Err (fault.Cut at)) fault.Read → A
cut_else e = absurd cc

refused_else : {A : Type 0} {why : WatchRefusal} → IsErrOf {T = Unit {0}} (Err (fault.Refused why)) fault.Read → A
refused_else e = absurd cc

pub returns-then-is_beyond-clause-reads : goal.returns-then-is_beyond-clause-reads
returns-then-is_beyond-clause-reads g c = reads_on c.records.invariant.reads c.in-Whole.ensures.reads refused_else

pub returns-in-Err-clause-reads : goal.returns-in-Err-clause-reads
returns-in-Err-clause-reads g c = reads_on c.records.invariant.reads c.in-Whole.ensures.reads memory_else

pub returns-in-End-clause-reads : goal.returns-in-End-clause-reads
returns-in-End-clause-reads g c = reads_on c.records.invariant.reads c.in-End.ensures.reads ended_else

pub returns-in-Cut-clause-reads : goal.returns-in-Cut-clause-reads
returns-in-Cut-clause-reads g c = reads_on c.records.invariant.reads c.in-Cut.ensures.reads cut_else

pub returns-in-Refused-clause-reads : goal.returns-in-Refused-clause-reads
returns-in-Refused-clause-reads g c = reads_on c.records.invariant.reads c.in-Refused.ensures.reads refused_else

pub returns-in-TooLong-clause-reads : goal.returns-in-TooLong-clause-reads
returns-in-TooLong-clause-reads g c = reads_on c.records.invariant.reads c.in-TooLong.ensures.reads refused_else

pub returns-in-Large-clause-reads : goal.returns-in-Large-clause-reads
returns-in-Large-clause-reads g c = reads_on c.records.invariant.reads c.in-Large.ensures.reads refused_else

pub returns-in-Failed-clause-reads : goal.returns-in-Failed-clause-reads
returns-in-Failed-clause-reads g c = reads_on c.records.invariant.reads c.in-Failed.ensures.reads (λ _. refl)
