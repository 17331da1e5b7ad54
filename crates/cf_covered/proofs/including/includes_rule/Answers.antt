use Rattle.std.proofs.Common.{arith}
use Rattle.cf_covered.proofs.including.includes_rule.Goals as goal

pub returns-then-not-includes : goal.returns-then-not-includes
returns-then-not-includes c = grind arith
