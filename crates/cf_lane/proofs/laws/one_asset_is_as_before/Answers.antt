use Rattle.cf_lane.proofs.Sites.{one_asset_ends, one_asset_fates, one_asset_lines, one_asset_outputs}
use Rattle.cf_lane.proofs.laws.one_asset_is_as_before.Goals as goal

pub returns-clause-fates : goal.returns-clause-fates
returns-clause-fates c = one_asset_fates

pub returns-clause-outputs : goal.returns-clause-outputs
returns-clause-outputs c = one_asset_outputs

pub returns-clause-lines : goal.returns-clause-lines
returns-clause-lines c = one_asset_lines

pub returns-clause-ends : goal.returns-clause-ends
returns-clause-ends c = one_asset_ends
