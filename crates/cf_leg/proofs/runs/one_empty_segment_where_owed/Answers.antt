use Rattle.cf_leg.proofs.Owed.{owed_once}
use Rattle.cf_leg.proofs.runs.one_empty_segment_where_owed.Goals as goal

pub returns : goal.returns
returns c = owed_once
