use Rattle.std.proofs.Common.{arith}
use Rattle.cf_renumber.proofs.Counting.{numbering_controller_ack}
use Rattle.cf_renumber.proofs.Lists.{count-uncovered}
use Rattle.cf_renumber.proofs.numbers.Numbers.forget_from_client.Goals as goal
use Rattle.std.proofs.lemmas.Grind.{common_steps}

pub invariant_of-self : goal.invariant_of-self
invariant_of-self c = grind (arith, common_steps, count-uncovered, numbering_controller_ack)
