use Rattle.cf_unobjected.proofs.GoingOn.{go_on}
use Rattle.cf_unobjected.proofs.laws.flows_go_on.Goals as goal

pub returns : goal.returns
returns c = go_on
