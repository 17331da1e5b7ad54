use Rattle.std.proofs.Common.{arith, of_calls, ap}
use Rattle.cf_policy.specs.Verdict.{verdict_of}
use Rattle.cf_lane.proofs.Commands.{admitted_at_end, allowed_at, refused_at}
use Rattle.cf_lane.specs.Acts.{admission}
use Rattle.cf_judge.specs.Ruling.{ruling_of}
use Rattle.cf_judge.proofs.ruling.judge_acts.Goals as goal

pub returns-in-Refuse : goal.returns-in-Refuse
returns-in-Refuse g c = λ client acts is size gives.
    let says = verdict_of c.args.asset.now client in
    ap ruling_of (refused_at says acts c.loop-i.i c.act_at-act.result
    (gives c.loop-i.i c.act_at-act.result (omega (arith, size, c.loop-i-test.true)) (search of_calls))
    (c.loop-i.invariant client acts is size gives) (admission c.args.asset.now says acts) c.in-Refuse.decider c.in-Refuse.reason (c.in-Refuse.ensures.decides client is))

pub loop-i-preserved : goal.loop-i-preserved
loop-i-preserved g c = λ client acts is size gives.
    allowed_at (verdict_of c.args.asset.now client) acts c.loop-i.i c.act_at-act.result
    (gives c.loop-i.i c.act_at-act.result (omega (arith, size, c.loop-i-test.true)) (search of_calls))
    (c.loop-i.invariant client acts is size gives) c.in-Allow.field-0 (c.in-Allow.ensures.decides client is)

pub returns : goal.returns
returns g c = λ client acts is size gives.
    let says = verdict_of c.args.asset.now client in
    ap ruling_of (admitted_at_end says acts c.loop-i.i (admission c.args.asset.now says acts) (omega (arith, size, c.loop-i-test.false)) (c.loop-i.invariant client acts is size gives))
