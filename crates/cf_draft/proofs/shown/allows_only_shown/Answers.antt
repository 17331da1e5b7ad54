use Rattle.std.proofs.Common.{map}
use Rattle.std.proofs.lemmas.Result.{IfOk-weaker}
use Rattle.cf_watch.specs.FlowValue.{flow_value}
use Rattle.cf_draft.proofs.Allowing.{only_shown}
use Rattle.cf_draft.proofs.shown.allows_only_shown.Goals as goal

pub returns-in-Ok : goal.returns-in-Ok
returns-in-Ok c =
    IfOk-weaker c.is_included.result _ _
    (λ yes all is. only_shown c.args.asset.now c.args.place (map flow_value c.args.flows.now) c.args.drafted.now c.in-Ok.exact c.in-Ok.ensures.learned (all is)) c.is_included.ensures
