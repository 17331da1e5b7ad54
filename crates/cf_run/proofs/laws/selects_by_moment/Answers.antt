use Rattle.cf_run.proofs.Selection.{selects_by_moment}
use Rattle.cf_run.proofs.laws.selects_by_moment.Goals as goal

pub returns : goal.returns
returns c = selects_by_moment
