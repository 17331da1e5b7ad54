use Rattle.std.proofs.Common.{Err, ap, map, subst, sym}
use Rattle.std.specs.Prelude.{string_bytes}
use Rattle.cf_box.specs.Recording.{StopsReading}
use Rattle.cf_ending.specs.Outside.{files_value}
use Rattle.cf_watch.specs.declared.Scope.TheVariants as scope
use Rattle.cf_box.proofs.OneRecording.{reads_capture, reads_none, word_front, word_more, word_none, word_stops, word_takes, word_unread}
use Rattle.cf_box.proofs.recording.+read_each.Goals as goal

pub returns-in_default-clause-more : goal.returns-in_default-clause-more
returns-in_default-clause-more g t c =
    word_none (g.H.Hearer.has_heard scope.Recording c.args.policy.now.assets) string_bytes c.args.captures.now c.in_default.ensures.cases (g.F.Files.content c.args.files.now) c.args.hearer.now

pub returns-in_default-clause-only : goal.returns-in_default-clause-only
returns-in_default-clause-only g t c = reads_none (map string_bytes c.args.captures.now) (files_value g.F.Files c.args.files.now)

pub returns-in-Ok-clause-more : goal.returns-in-Ok-clause-more
returns-in-Ok-clause-more g t c =
    word_takes string_bytes c.args.captures.now c.in-Some.rest.now c.in-Some.capture.now c.in-Some.ensures.cases.0 c.as_str.result.now c.as_str.ensures.value
    (files_value g.F.Files c.args.files.now) (files_value g.F.Files c.read_next.new.files)
    (reads_capture c.as_str.result.now (files_value g.F.Files c.args.files.now) (files_value g.F.Files c.read_next.new.files) c.read_next.ensures.reads.same c.read_next.ensures.reads.cause c.read_next.ensures.reads.writes)
    (g.H.Hearer.has_heard scope.Recording c.args.policy.now.assets) c.read_each.result c.args.hearer.now c.read_next.new.hearer c.read_each.new.hearer c.in-Ok.ensures.more c.read_each.ensures.more

pub returns-in-Ok-clause-stop : goal.returns-in-Ok-clause-stop
returns-in-Ok-clause-stop g t c =
    word_stops string_bytes c.args.captures.now c.in-Some.rest.now c.in-Some.capture.now c.in-Some.ensures.cases.0 c.as_str.result.now c.as_str.ensures.value
    (files_value g.F.Files c.args.files.now) (files_value g.F.Files c.read_next.new.files)
    (reads_capture c.as_str.result.now (files_value g.F.Files c.args.files.now) (files_value g.F.Files c.read_next.new.files) c.read_next.ensures.reads.same c.read_next.ensures.reads.cause c.read_next.ensures.reads.writes)
    (files_value g.F.Files c.read_each.new.files) c.read_each.ensures.only c.read_each.result (c.in-Ok.ensures.more.0, c.in-Ok.ensures.more.1) c.read_each.ensures.stop

pub returns-in-Ok-clause-only : goal.returns-in-Ok-clause-only
returns-in-Ok-clause-only g t c =
    word_more string_bytes c.args.captures.now c.in-Some.rest.now c.in-Some.capture.now c.in-Some.ensures.cases.0 c.as_str.result.now c.as_str.ensures.value
    (files_value g.F.Files c.args.files.now) (files_value g.F.Files c.read_next.new.files)
    (reads_capture c.as_str.result.now (files_value g.F.Files c.args.files.now) (files_value g.F.Files c.read_next.new.files) c.read_next.ensures.reads.same c.read_next.ensures.reads.cause c.read_next.ensures.reads.writes)
    (files_value g.F.Files c.read_each.new.files) c.read_each.ensures.only

pub returns-in-Err-clause-stop : goal.returns-in-Err-clause-stop
returns-in-Err-clause-stop g t c =
    let before = files_value g.F.Files c.args.files.now in
    let after = files_value g.F.Files c.read_next.new.files in
    subst (λ s. StopsReading (map string_bytes c.args.captures.now) before after s) (sym c.fault_stop.ensures)
    (word_unread string_bytes c.args.captures.now c.in-Some.rest.now c.in-Some.capture.now c.in-Some.ensures.cases.0 c.as_str.result.now c.as_str.ensures.value before after
    (reads_capture c.as_str.result.now before after c.read_next.ensures.reads.same c.read_next.ensures.reads.cause c.read_next.ensures.reads.writes)
    c.in-Err.fault (λ is. c.in-Err.ensures.reads.cause.rose (ap Err is)) c.in-Err.ensures.fault)

pub returns-in-Err-clause-only : goal.returns-in-Err-clause-only
returns-in-Err-clause-only g t c =
    word_front string_bytes c.args.captures.now c.in-Some.rest.now c.in-Some.capture.now c.in-Some.ensures.cases.0 c.as_str.result.now c.as_str.ensures.value
    (files_value g.F.Files c.args.files.now) (files_value g.F.Files c.read_next.new.files)
    (reads_capture c.as_str.result.now (files_value g.F.Files c.args.files.now) (files_value g.F.Files c.read_next.new.files) c.read_next.ensures.reads.same c.read_next.ensures.reads.cause c.read_next.ensures.reads.writes)
