use Rattle.cf_lane.proofs.Growth.{streams_go_on}
use Rattle.cf_lane.proofs.Quiet.{quiet_behind_end}
use Rattle.cf_lane.proofs.laws.streams_go_on.Goals as goal

pub returns : goal.returns
returns c = record { go_on = streams_go_on; quiet = quiet_behind_end }
