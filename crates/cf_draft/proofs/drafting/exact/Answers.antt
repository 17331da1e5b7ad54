use Rattle.std.proofs.Common.{map}
use Rattle.cf_watch.specs.FlowValue.{flow_value}
use Rattle.cf_draft.proofs.Allowing.{learned_drafts}
use Rattle.cf_draft.proofs.drafting.exact.Goals as goal

pub returns-in-Ok-clause-drafted : goal.returns-in-Ok-clause-drafted
returns-in-Ok-clause-drafted c =
    learned_drafts (map flow_value c.args.flows.now) 0 c.args.policy.now.assets c.in_ok-learned.learned.assets c.in_ok-learned.ensures.learned
