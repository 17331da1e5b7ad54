use Rattle.std.proofs.Common.{map, subst, sym}
use Rattle.std.specs.Prelude.{Contains}
use Rattle.cf_watch.specs.FlowValue.{flow_value}
use Rattle.cf_draft.proofs.Allowing.{shown_all}
use Rattle.cf_draft.proofs.shown.allows_shown.Goals as goal

pub returns-in-Ok : goal.returns-in-Ok
returns-in-Ok c = λ yes.
    shown_all c.args.asset.now c.args.place (map flow_value c.args.flows.now) c.in-Ok.seen.items c.args.drafted.now c.in-Ok.ensures.seen
    (λ s here. c.allows_all.ensures yes s (subst (λ l. Contains l s) (sym c.as_slice.ensures.value) here))
