use Rattle.cf_review.proofs.First.{tells_the_first}
use Rattle.cf_review.proofs.laws.judge_tells_the_first.Goals as goal

pub returns : goal.returns
returns c = tells_the_first
