use Rattle.cf_lane.proofs.Lasting.{rates_last}
use Rattle.cf_lane.proofs.laws.rates_last.Goals as goal

pub returns : goal.returns
returns c = rates_last
