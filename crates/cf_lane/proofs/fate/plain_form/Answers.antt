use Rattle.std.proofs.Common.{inr, subst, sym}
use Rattle.cf_modbus.specs.Acts.{acts}
use Rattle.cf_modbus.specs.Request.{request_value}
use Rattle.cf_policy.specs.Verdict.{verdict_of}
use Rattle.cf_lane.specs.Acts.{first_refusal, first_shown}
use Rattle.cf_lane.specs.Plain.{IsPlainOf}
use Rattle.cf_lane.proofs.Plains.{of_judgement}
use Rattle.cf_lane.proofs.fate.plain_form.Goals as goal

pub returns-in-Ok-clause-fate : goal.returns-in-Ok-clause-fate
returns-in-Ok-clause-fate c = λ client is.
    (let r = request_value c.in-Ok.request in
    let says = verdict_of c.args.asset.now client in
    inr (
      r,
      c.in-Ok.ensures.true_answer,
      subst (IsPlainOf c.args.asset.now client (acts r)) (sym c.plain_of.ensures)
          (of_judgement c.judge_unrated_request.result (first_shown c.args.asset.now.rules says (acts r)) (first_refusal says (acts r)) (c.judge_unrated_request.ensures.fate client is)),
    ))
