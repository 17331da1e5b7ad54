use Rattle.cf_serve.proofs.Strangers.{refused}
use Rattle.cf_serve.proofs.laws.strangers_are_refused.Goals as goal

pub returns : goal.returns
returns c = record { refused = refused c.allows_by_first_rule.ensures }
