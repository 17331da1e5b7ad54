use Rattle.cf_review.proofs.Fronts.{come_first}
use Rattle.cf_review.proofs.laws.records_come_first.Goals as goal

pub returns : goal.returns
returns c = come_first
