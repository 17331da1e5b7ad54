use Rattle.std.proofs.Common.{arith, ap, length, sym, subst}
use Rattle.std.specs.Prelude.{OnOk}
use Rattle.cf_watch.specs.declared.Scope.TheVariants as scope
use Rattle.cf_box.proofs.OneRecording.{TakesNewest, heard_where, one_taken}
use Rattle.cf_box.proofs.recording.read_next.Goals as goal

pub hear_capture-requires-clause-assets : goal.hear_capture-requires-clause-assets
hear_capture-requires-clause-assets g c =
    let count = c.requires.within.count in
    let same = ap length c.as_slice.ensures in
    omega (arith, count, same)

pub hear_capture-requires-clause-heard : goal.hear_capture-requires-clause-heard
hear_capture-requires-clause-heard g c = (
  c.requires.heard.0,
  subst (λ assets. g.H.Hearer.has_heard scope.Recording assets c.requires.heard.0 c.args.hearer.now) (sym c.as_slice.ensures) c.requires.heard.1,
)

pub returns-clause-heard : goal.returns-clause-heard
returns-clause-heard g c =
    let file = g.F.Files.content c.args.files.now c.args.capture.now in
    let old = c.args.hearer.now in
    let new = c.hear_capture.new.hearer in
    heard_where (g.H.Hearer.has_heard scope.Recording c.args.policy.now.assets) c.hear_capture.result file old new c.requires.heard
    (subst (λ assets. OnOk c.hear_capture.result (TakesNewest (g.H.Hearer.has_heard scope.Recording assets) file old new)) c.as_slice.ensures c.hear_capture.ensures.more)

pub returns-clause-more : goal.returns-clause-more
returns-clause-more g c =
    let file = g.F.Files.content c.args.files.now c.args.capture.now in
    let old = c.args.hearer.now in
    let new = c.hear_capture.new.hearer in
    one_taken (g.H.Hearer.has_heard scope.Recording c.args.policy.now.assets) c.hear_capture.result file old new
    (subst (λ assets. OnOk c.hear_capture.result (TakesNewest (g.H.Hearer.has_heard scope.Recording assets) file old new)) c.as_slice.ensures c.hear_capture.ensures.more)
