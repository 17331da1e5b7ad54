use Rattle.std.proofs.Common.{arith, refl}
use Rattle.std.proofs.lemmas.Bool.{cases_lt}
use Rattle.std.proofs.lemmas.Grind.{get_or-set_at}
use Rattle.std.proofs.lemmas.List.{get_or-set_other, length-set}
use Rattle.cf_policy.proofs.index.starts_of.Goals as goal
use Rattle.std.proofs.lemmas.Grind.{common_steps}

pub loop-code-init : goal.loop-code-init
loop-code-init c = (refl, λ code lt. absurd (omega (arith, lt)))

pub loop-code-preserved : goal.loop-code-preserved
loop-code-preserved c = grind (arith, common_steps, length-set, get_or-set_other, get_or-set_at, cases_lt)

pub returns : goal.returns
returns c = λ code lt. c.loop-code.invariant.1 code (omega (arith, lt, c.loop-code-test.false, c.loop-code.invariant.0))
