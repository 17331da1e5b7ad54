use Rattle.std.proofs.Common.{sym, subst, arith}
use Rattle.cf_modbus.proofs.ActLists.{count_of_acts, count_limits}
use Rattle.cf_modbus.specs.Acts.{acts}
use Rattle.cf_modbus.specs.Request.{request_value}
use Rattle.cf_policy.specs.Run.{TakesAnyValue}
use Rattle.cf_policy.specs.Verdict.{verdict_of}
use Rattle.cf_lane.proofs.Runs.{one_has, run_has}
use Rattle.cf_lane.proofs.run.judge_run.Goals as goal

pub overflow_add-result : goal.overflow_add-result
overflow_add-result c =
    let r = request_value c.args.request.now in
    omega (arith, c.requires.inside, count_of_acts r, (count_limits r c.requires.read).1)

pub overflow_add-result-3 : goal.overflow_add-result-3
overflow_add-result-3 c =
    let r = request_value c.args.request.now in
    omega (arith, c.requires.inside, count_of_acts r, (count_limits r c.requires.read).1, c.verdict_run-verdict.ensures.stays, c.verdict_run-verdict.ensures.reaches, c.last_of_run-last.ensures.within, c.last_of_run-last.ensures.from)

pub returns-then-last-i-clause-run : goal.returns-then-last-i-clause-run
returns-then-last-i-clause-run c = λ client is.
    one_has (verdict_of c.args.asset.now client) (acts (request_value c.args.request.now)) c.args.i c.args.act.now c.verdict.result c.requires.act (c.verdict.ensures.decides client is)

pub returns-clause-run : goal.returns-clause-run
returns-clause-run c = λ client is.
    run_has c.args.asset.now client (acts (request_value c.args.request.now)) c.args.i c.last_of_run-last.result c.verdict_run-verdict.result.1 c.args.act.now c.args.any_value c.verdict_run-verdict.result.0
    c.last_of_run-last.ensures.run
    (λ yes. subst (TakesAnyValue c.args.asset.now client) (sym c.last_of_run-last.ensures.code) (c.requires.any_value client is yes))
    (c.verdict_run-verdict.ensures.run client is) c.verdict_run-verdict.ensures.reaches c.verdict_run-verdict.ensures.stays c.last_of_run-last.ensures.from
