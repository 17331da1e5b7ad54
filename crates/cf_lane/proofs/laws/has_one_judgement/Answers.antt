use Rattle.cf_lane.proofs.Growth.{has_one_judgement}
use Rattle.cf_lane.proofs.laws.has_one_judgement.Goals as goal

pub returns : goal.returns
returns c = has_one_judgement
