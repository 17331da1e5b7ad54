use Rattle.std.proofs.Common.{[], map}
use Rattle.std.specs.Prelude.{string_bytes}
use Rattle.cf_watch.specs.FlowValue.{flow_value, stretch_value}
use Rattle.cf_watch.specs.Recorder.{IsRecorderFor}
use Rattle.cf_watch.specs.declared.Scope.TheVariants as scope
use Rattle.cf_box.proofs.OneRecording.{all_taken, is_recording}
use Rattle.cf_box.proofs.recording.read_recording.Goals as goal

pub read_each-requires-clause-heard : goal.read_each-requires-clause-heard
read_each-requires-clause-heard g c = ([], c.new-recorder.ensures scope.Recording c.args.policy.now.assets)

pub finish-requires : goal.finish-requires
finish-requires g c =
    let assets = c.args.policy.now.assets in
    let taken = c.in-Ok.ensures.more in
    let all = all_taken (IsRecorderFor scope.Recording assets) (g.F.Files.content c.args.files.now) (map string_bytes c.args.captures.now) c.new-recorder.result c.read_each.new.hearer
    (c.new-recorder.ensures scope.Recording assets) taken in
    record { recorded = (assets, (taken.0, all)) }

pub returns-in-Ok-finish-clause-recording : goal.returns-in-Ok-finish-clause-recording
returns-in-Ok-finish-clause-recording g c =
    let r = c.in-Ok-finish.recording in
    let assets = c.args.policy.now.assets in
    is_recording assets (g.F.Files.content c.args.files.now) (map string_bytes c.args.captures.now) c.new-recorder.result c.read_each.new.hearer (map flow_value r.flows.items)
    (map stretch_value r.stretches.items) r.stamps.items (c.new-recorder.ensures scope.Recording assets) c.in-Ok.ensures.more (λ records is. c.in-Ok-finish.ensures.recording assets records is)

pub returns-in-Ok-finish-clause-for_assets : goal.returns-in-Ok-finish-clause-for_assets
returns-in-Ok-finish-clause-for_assets g c =
    let assets = c.args.policy.now.assets in
    let taken = c.in-Ok.ensures.more in
    let all = all_taken (IsRecorderFor scope.Recording assets) (g.F.Files.content c.args.files.now) (map string_bytes c.args.captures.now) c.new-recorder.result c.read_each.new.hearer
    (c.new-recorder.ensures scope.Recording assets) taken in
    c.in-Ok-finish.ensures.for_assets assets (taken.0, all)

pub returns-in-Ok-finish-clause-stretches_for_assets : goal.returns-in-Ok-finish-clause-stretches_for_assets
returns-in-Ok-finish-clause-stretches_for_assets g c =
    let assets = c.args.policy.now.assets in
    let taken = c.in-Ok.ensures.more in
    let all = all_taken (IsRecorderFor scope.Recording assets) (g.F.Files.content c.args.files.now) (map string_bytes c.args.captures.now) c.new-recorder.result c.read_each.new.hearer
    (c.new-recorder.ensures scope.Recording assets) taken in
    c.in-Ok-finish.ensures.stretches_for_assets assets (taken.0, all)
