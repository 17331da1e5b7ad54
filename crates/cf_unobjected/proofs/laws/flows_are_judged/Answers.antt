use Rattle.cf_unobjected.proofs.SomeReading.{flows_judged}
use Rattle.cf_unobjected.proofs.laws.flows_are_judged.Goals as goal

pub returns : goal.returns
returns c = flows_judged c.each_pdu_has_an_answer.ensures
