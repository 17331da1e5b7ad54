use Rattle.cf_review.proofs.Stamping.{text_told}
use Rattle.cf_review.proofs.laws.stamps_tell.Goals as goal

pub returns : goal.returns
returns c = text_told
