use Rattle.cf_acts.proofs.Ranges.{values_settled}
use Rattle.cf_acts.proofs.laws.values_are_settled.Goals as goal

pub returns : goal.returns
returns c = values_settled
