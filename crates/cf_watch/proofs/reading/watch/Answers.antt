use Rattle.std.proofs.Common.{[], List, ℕ, reverse, subst}
use Rattle.std.proofs.lemmas.List.{append-nil}
use Rattle.cf_outside.specs.Files.{Content}
use Rattle.cf_view.specs.declared.LinkSet.TheVariants as set
use Rattle.cf_watch.specs.Recorded.{IsCaptureIn}
use Rattle.cf_watch.specs.Recorder.{IsRecorderFor}
use Rattle.cf_watch.specs.declared.scope.Scope.TheVariants as scope
use Rattle.cf_watch.proofs.SoFar.{for_assets, has_flows}
use Rattle.cf_watch.proofs.reading.watch.Goals as goal

pub returns-in-Ok-clause-watched : goal.returns-in-Ok-clause-watched
returns-in-Ok-clause-watched g c =
    let assets = c.args.policy.now.assets in
    let taken = c.in-Ok.ensures.more in
    let none = c.new-recorder.ensures scope.Connections c.as_slice-assets.result.now in
    let is : IsRecorderFor scope.Connections assets taken.0 c.hear_capture.new.hearer =
    subst (λ a. IsRecorderFor scope.Connections a taken.0 c.hear_capture.new.hearer) c.as_slice-assets.ensures
    (subst (λ rs. IsRecorderFor scope.Connections c.as_slice-assets.result.now rs c.hear_capture.new.hearer) (append-nil taken.0) (taken.2 [] none)) in
    let capture = subst (λ (content : List ℕ → Content). IsCaptureIn set.Plain (content c.args.capture.now) (reverse taken.0)) c.is_long.ensures.reads.same taken.1 in
    has_flows assets (g.F.Files.content c.args.files.now c.args.capture.now) taken.0 c.hear_capture.new.hearer (c.in-Some-false.ensures.short (let test = c.in-Some-false.field-0-test in cc)) capture is

pub returns-in-Ok-clause-for_assets : goal.returns-in-Ok-clause-for_assets
returns-in-Ok-clause-for_assets g c =
    let assets = c.args.policy.now.assets in
    let taken = c.in-Ok.ensures.more in
    let none = c.new-recorder.ensures scope.Connections c.as_slice-assets.result.now in
    let is : IsRecorderFor scope.Connections assets taken.0 c.hear_capture.new.hearer =
    subst (λ a. IsRecorderFor scope.Connections a taken.0 c.hear_capture.new.hearer) c.as_slice-assets.ensures
    (subst (λ rs. IsRecorderFor scope.Connections c.as_slice-assets.result.now rs c.hear_capture.new.hearer) (append-nil taken.0) (taken.2 [] none)) in
    for_assets scope.Connections assets taken.0 c.hear_capture.new.hearer is

pub hear_capture-requires-clause-heard : goal.hear_capture-requires-clause-heard
hear_capture-requires-clause-heard g c = ([], c.new-recorder.ensures scope.Connections c.as_slice-assets.result.now)
