use Rattle.cf_judge.proofs.Sites.{one_asset_fates, parts_fates}
use Rattle.cf_judge.proofs.laws.each_asset_is_judged_alone.Goals as goal

pub returns-clause-one : goal.returns-clause-one
returns-clause-one c = one_asset_fates

pub returns-clause-parts : goal.returns-clause-parts
returns-clause-parts c = parts_fates
