use Rattle.cf_unobjected.proofs.OneJudgement.{one_judgement, records_one}
use Rattle.cf_unobjected.proofs.OneList.{one_list}
use Rattle.cf_unobjected.proofs.laws.judgements_are_one.Goals as goal

pub returns : goal.returns
returns c = record { flows = one_list; judgements = one_judgement; records = records_one }
