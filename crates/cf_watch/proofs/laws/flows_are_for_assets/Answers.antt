use Rattle.cf_watch.proofs.ForAssets.{are_for}
use Rattle.cf_watch.proofs.laws.flows_are_for_assets.Goals as goal

pub returns : goal.returns
returns c = are_for
