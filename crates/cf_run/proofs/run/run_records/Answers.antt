use Rattle.std.proofs.Common.{List, ℕ, ◌≡◌, ◌<◌, true, Err, refl, sym, ap, ◌∙◌, subst, arith}
use Rattle.cf_outside.proofs.Frames.{cause_none, cause_on, cause_still}
use Rattle.cf_outside.specs.Files.{Content}
use Rattle.cf_records.specs.Capture.{Cut, FileEnd, Large, Refused, TooLong}
use Rattle.cf_packet.specs.Packet.{read_record}
use Rattle.cf_run.specs.FileDesk.{are_whole, files_desk}
use Rattle.cf_run.specs.Half.{StepBreaks}
use Rattle.cf_records.specs.Reader.{FindsRecord, ReaderValue}
use Rattle.cf_records.specs.declared.NextRecord.{NextRecord}
use Rattle.cf_run.specs.RunCapture.{RunNamesValue, run_names_value}
use Rattle.cf_run.specs.Trace.{Input, table_after}
use Rattle.cf_records.proofs.Behind.{stands_cut, stands_end, stands_large, stands_late, stands_long, stands_refused}
use Rattle.cf_run.proofs.Running.{breaks_off, next_so_far, nothing_so_far, runs_partly, runs_to, stopped, stops_between, told_on, too_late, whole_first}
use Rattle.cf_run.proofs.run.run_records.Goals as goal
use Rattle.cf_view.specs.Moment.{moment_limit}

found_as : (file : Content) (prior reader : ReaderValue) (read answer : NextRecord) → read ≡ answer → FindsRecord file prior reader read → FindsRecord file prior reader answer
found_as file prior reader read answer e h = subst (FindsRecord file prior reader) e h

pub records-init : goal.records-init
records-init g c = record {
  start = c.requires.first.opened.form;
  prior = c.requires.first.opened;
  so_far = nothing_so_far c.requires.first.has_form c.requires.out c.requires.log c.requires.first.place c.requires.stands;
  found = c.requires.first.found;
  some = λ e. absurd (c.requires.read e);
  failed = λ e. absurd (c.requires.read e);
  near = c.requires.near;
  later = omega (arith, c.requires.stands.last);
  sound = c.requires.sound;
  whole = whole_first c.args.names.now.out.now c.args.names.now.log.now (g.F.Files.content c.args.files.now) c.requires.out c.requires.log;
  others = λ other none. refl;
  reads = cause_none c.args.names.now.capture.now (g.F.Files.read_faults c.args.files.now);
  writes = omega arith;
}

pub records-preserved : goal.records-preserved
records-preserved g c =
    let before = c.records.invariant in
    let read = c.next-read.ensures in
    let done = c.in_ok-run_record-in-Whole.ensures in
    let apart = c.requires.apart in
    let content = g.F.Files.content in
    let names : RunNamesValue = run_names_value c.args.names.now in
    let so = next_so_far before.so_far c.in-Whole.stamp (found_as _ _ _ _ _ c.in-Whole.is before.found) refl c.max-moment.ensures (omega (arith, c.if-moment-ge-MOMENT_LIMIT.false)) done.steps done.limit
    (done.others names.capture (apart.capture_out, (apart.capture_log, tt))) read.reads.same in
    let cause = cause_on before.reads (cause_on (cause_still names.capture done.reads (λ never. never)) read.reads.cause (λ e. e)) (λ e. e) in
    record {
      start = before.start;
      prior = c.records.reader;
      so_far = so.0;
      found = subst (λ (f : List ℕ → Content). FindsRecord (f names.capture) c.records.reader c.next-read.new.self c.next-read.result) (sym read.reads.same) read.found;
      some = λ e. so.1;
      failed = cause.rose;
      near = read.near;
      later = omega (arith, done.last);
      sound = done.sound;
      whole = subst (λ (f : List ℕ → Content). are_whole names.out names.log f ≡ true) (sym read.reads.same) done.whole;
      others = λ other none. ap (λ (f : List ℕ → Content). f other) read.reads.same ∙ done.others other none ∙ before.others other none;
      reads = record { later = cause.later; rose = λ never. absurd never; others = cause.others };
      writes = omega (arith, before.writes, read.reads.writes, done.cause.later);
    }

pub returns-in-End-clause-runs : goal.returns-in-End-clause-runs
returns-in-End-clause-runs g c =
    let before = c.records.invariant in
    (_, runs_to before.so_far before.whole FileEnd refl c.records.reader.place (stands_end (g.F.Files.content c.records.files c.args.names.now.capture.now) before.prior c.records.reader (found_as _ _ _ _ _ c.in-End.is before.found)) refl tt refl c.summary.ensures)

pub returns-in-Cut-clause-runs : goal.returns-in-Cut-clause-runs
returns-in-Cut-clause-runs g c =
    let before = c.records.invariant in
    runs_to before.so_far before.whole Cut refl c.records.reader.place (stands_cut (g.F.Files.content c.records.files c.args.names.now.capture.now) before.prior c.records.reader (found_as _ _ _ _ _ c.in-Cut.is before.found)) refl tt c.place.ensures c.summary-in-Cut.ensures

pub returns-then-moment-ge-MOMENT_LIMIT-clause-runs :
    goal.returns-then-moment-ge-MOMENT_LIMIT-clause-runs
returns-then-moment-ge-MOMENT_LIMIT-clause-runs g c =
    let before = c.records.invariant in
    let (place, used, stands) = stands_late (g.F.Files.content c.records.files c.args.names.now.capture.now) before.prior c.records.reader c.in-Whole.stamp (found_as _ _ _ _ _ c.in-Whole.is before.found) in
    let late = too_late c.records.least used _ (omega (arith, c.if-moment-ge-MOMENT_LIMIT.true, c.max-moment.ensures)) in
    (_, _, runs_to before.so_far before.whole _ refl place stands late tt refl refl)

pub returns-in-TooLong-clause-runs : goal.returns-in-TooLong-clause-runs
returns-in-TooLong-clause-runs g c =
    let before = c.records.invariant in
    (_, _, runs_to before.so_far before.whole TooLong refl c.records.reader.place (stands_long (g.F.Files.content c.records.files c.args.names.now.capture.now) before.prior c.records.reader (found_as _ _ _ _ _ c.in-TooLong.is before.found)) refl tt refl refl)

pub returns-in-Large-clause-runs : goal.returns-in-Large-clause-runs
returns-in-Large-clause-runs g c =
    let before = c.records.invariant in
    (_, _, runs_to before.so_far before.whole Large refl c.records.reader.place (stands_large (g.F.Files.content c.records.files c.args.names.now.capture.now) before.prior c.records.reader (found_as _ _ _ _ _ c.in-Large.is before.found)) refl tt refl refl)

pub returns-in-Refused-clause-runs : goal.returns-in-Refused-clause-runs
returns-in-Refused-clause-runs g c =
    let before = c.records.invariant in (
      _,
      _,
      runs_to before.so_far before.whole (Refused c.in-Refused.refusal) refl c.records.reader.place
          (stands_refused (g.F.Files.content c.records.files c.args.names.now.capture.now) before.prior c.records.reader c.in-Refused.refusal (found_as _ _ _ _ _ c.in-Refused.is before.found)) refl tt refl refl,
    )

pub returns-in-Failed-clause-runs : goal.returns-in-Failed-clause-runs
returns-in-Failed-clause-runs g c =
    let before = c.records.invariant in
    runs_partly before.so_far before.whole refl (before.some c.in-Failed.is)

pub returns-in-Failed-clause-read : goal.returns-in-Failed-clause-read
returns-in-Failed-clause-read g c = record { later = c.records.invariant.reads.later; rose = λ e. c.records.invariant.failed c.in-Failed.is; others = c.records.invariant.reads.others }

pub returns-in_err-run_record-in-Whole-clause-runs : goal.returns-in_err-run_record-in-Whole-clause-runs
returns-in_err-run_record-in-Whole-clause-runs g c =
    let before = c.records.invariant in
    let so_far = before.so_far in
    let failed = c.in_err-run_record-in-Whole.ensures in
    let fault = c.in_err-run_record-in-Whole.field-0.0 in
    let content = g.F.Files.content in
    let assets = c.args.policy.now.assets in
    let limit = c.args.engine.now.limit in
    let names : RunNamesValue = run_names_value c.args.names.now in
    let first = content c.args.files.now in
    let files = content c.records.files in
    let after = content c.run_record.new.files in
    let next : ReaderValue = c.records.reader in
    let moment = c.max-moment.result in
    let given : Input = record { moment = moment; packet = read_record next.link next.body } in
    let early : moment < moment_limit = omega (arith, c.if-moment-ge-MOMENT_LIMIT.false) in
    told_on assets limit names first after fault c.from_residual.result c.from_residual.ensures.1
    (stopped assets limit names first after fault
    (λ e. breaks_off so_far c.in-Whole.stamp next moment files after (found_as _ _ _ _ _ c.in-Whole.is before.found) refl c.max-moment.ensures early before.whole
    (subst (λ n. StepBreaks assets n (table_after so_far.events) given (files_desk names.out names.log files) (files_desk names.out names.log after)) so_far.limited
    (failed.broken (ap Err e) so_far.events so_far.stands)))
    (λ e. stops_between so_far c.in-Whole.stamp next moment files after (found_as _ _ _ _ _ c.in-Whole.is before.found) refl c.max-moment.ensures early (failed.stops_whole (ap Err e)) (failed.stops (ap Err e) so_far.events so_far.stands)))
