use Rattle.cf_lane.proofs.Holding.{rates_hold}
use Rattle.cf_lane.proofs.laws.rates_hold.Goals as goal

pub returns : goal.returns
returns c = rates_hold
