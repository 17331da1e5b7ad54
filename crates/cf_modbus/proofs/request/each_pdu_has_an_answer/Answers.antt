use Rattle.cf_modbus.proofs.Answered.{has_answer}
use Rattle.cf_modbus.proofs.request.each_pdu_has_an_answer.Goals as goal

pub returns : goal.returns
returns c = has_answer
