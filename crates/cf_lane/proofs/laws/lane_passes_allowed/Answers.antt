use Rattle.cf_lane.proofs.Allowed.{lane_passes_allowed}
use Rattle.cf_lane.proofs.laws.lane_passes_allowed.Goals as goal

pub returns : goal.returns
returns c = lane_passes_allowed
