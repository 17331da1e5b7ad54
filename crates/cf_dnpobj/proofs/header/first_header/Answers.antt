use Rattle.std.proofs.Common.{arith}
use Rattle.cf_dnpobj.proofs.Headers.{begins_with_header}
use Rattle.cf_dnpobj.proofs.header.first_header.Goals as goal
use Rattle.std.proofs.lemmas.Grind.{common_steps}

pub returns-clause-found : goal.returns-clause-found
returns-clause-found c = grind (arith, common_steps, begins_with_header)
