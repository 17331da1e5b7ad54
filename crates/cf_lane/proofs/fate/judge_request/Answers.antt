use Rattle.std.proofs.Common.{rules, sym}
use Rattle.cf_modbus.specs.Acts.{acts}
use Rattle.cf_modbus.specs.Request.{request_value}
use Rattle.cf_lane.proofs.fate.judge_request.Goals as goal

pub returns-clause-fate : goal.returns-clause-fate
returns-clause-fate c = λ client is.
    c.judge_acts.ensures.fate client (acts (request_value c.args.request.now)) is (sym c.act_count.ensures.count) (λ i act inside gives. search rules)
