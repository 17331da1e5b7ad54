use Rattle.cf_dnpobj.proofs.InOrder.{command_act}
use Rattle.cf_dnpobj.proofs.acts.header_act.Goals as goal
use Rattle.std.proofs.lemmas.Grind.{common_steps}
use Rattle.std.proofs.Common.{arith}

pub returns-then-is_command : goal.returns-then-is_command
returns-then-is_command c = grind (arith, common_steps, command_act)
