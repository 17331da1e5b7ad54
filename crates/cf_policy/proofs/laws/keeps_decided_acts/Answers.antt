use Rattle.cf_policy.proofs.FirstRule.{keeps_decided}
use Rattle.cf_policy.proofs.laws.keeps_decided_acts.Goals as goal

pub returns : goal.returns
returns c = keeps_decided
