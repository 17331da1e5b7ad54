use Rattle.cf_lane.proofs.Judgements.{pieces_join}
use Rattle.cf_lane.proofs.Units.{free_unit}
use Rattle.cf_lane.proofs.Recuts.{end_joins, judged_join, nothing_taken}
use Rattle.cf_lane.proofs.laws.pieces_join.Goals as goal

pub returns : goal.returns
returns c = record { items = pieces_join; judged = judged_join; nothing = nothing_taken; ends = end_joins; free = free_unit }
