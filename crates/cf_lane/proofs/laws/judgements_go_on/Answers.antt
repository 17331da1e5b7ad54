use Rattle.cf_lane.proofs.GoingOn.{judgements_go_on}
use Rattle.cf_lane.proofs.laws.judgements_go_on.Goals as goal

pub returns : goal.returns
returns c = judgements_go_on c.each_pdu_has_an_answer.ensures
