use Rattle.std.proofs.Common.{◌∙◌, ap}
use Rattle.cf_watch.specs.Stretches.{all_stretches}
use Rattle.cf_watch.specs.Trail.{all_kept}
use Rattle.cf_watch.proofs.AllKept.{values_kept}
use Rattle.cf_watch.proofs.recorder.recording_of.Goals as goal

pub returns-clause-stretches : goal.returns-clause-stretches
returns-clause-stretches c = λ scope number ws is.
    c.in_ok-stretches.ensures.stretches scope number ws (all_kept c.args.watch.flows.items) is ∙ ap (all_stretches ws) (values_kept c.args.watch.flows.items)
