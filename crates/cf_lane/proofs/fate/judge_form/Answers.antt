use Rattle.std.proofs.Common.{ap}
use Rattle.cf_lane.specs.Judgement.{fate_of_judgement}
use Rattle.cf_modbus.specs.Request.{request_value}
use Rattle.cf_lane.specs.Modbus.{of_no_form, of_its_acts}
use Rattle.cf_lane.proofs.fate.judge_form.Goals as goal

pub returns-in-Err-clause-fate : goal.returns-in-Err-clause-fate
returns-in-Err-clause-fate c = λ client is.
    (let judged = ap fate_of_judgement c.refused.ensures in
    of_no_form c.requires.station c.in-Err.refusal c.in-Err.ensures.true_answer (cc (judged, c.reason.ensures)))

pub returns-in-Ok-clause-fate : goal.returns-in-Ok-clause-fate
returns-in-Ok-clause-fate c = λ client is.
    of_its_acts c.requires.station (request_value c.in-Ok.request) c.in-Ok.ensures.true_answer (c.judge_request.ensures.fate client is)
