use Rattle.cf_sift.proofs.Stored.{has_one_cut}
use Rattle.cf_sift.proofs.laws.has_one_cut.Goals as goal

pub returns : goal.returns
returns c = has_one_cut c.has_one_judgement.ensures
