use Rattle.cf_lane.proofs.Sizes.{grows_little}
use Rattle.cf_lane.proofs.laws.grows_little.Goals as goal

pub returns : goal.returns
returns c = grows_little
