use Rattle.cf_renumber.proofs.Counting.{awaits}
use Rattle.cf_renumber.proofs.numbers.Numbers.take_from_client.Goals as goal
use Rattle.std.proofs.lemmas.Grind.{common_steps}
use Rattle.std.proofs.Common.{arith}

pub returns-clause-stands : goal.returns-clause-stands
returns-clause-stands c = grind (arith, common_steps, awaits)
