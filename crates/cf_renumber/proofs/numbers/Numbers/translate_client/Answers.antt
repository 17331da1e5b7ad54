use Rattle.cf_renumber.proofs.Counting.{stands_client_ack, stamp_controller}
use Rattle.cf_renumber.proofs.numbers.Numbers.translate_client.Goals as goal
use Rattle.std.proofs.lemmas.Grind.{common_steps}
use Rattle.std.proofs.Common.{arith}

pub returns-clause-answer : goal.returns-clause-answer
returns-clause-answer c = grind (arith, common_steps, stands_client_ack, stamp_controller)
