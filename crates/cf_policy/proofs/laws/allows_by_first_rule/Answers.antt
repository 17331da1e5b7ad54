use Rattle.cf_policy.proofs.FirstRule.{allows_by_first}
use Rattle.cf_policy.proofs.laws.allows_by_first_rule.Goals as goal

pub returns : goal.returns
returns c = allows_by_first
