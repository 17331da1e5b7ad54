use Rattle.std.proofs.Common.{◌+◌, ◌∙◌, ◌≤◌, ap, arith, false, length, of_calls, refl, replicate}
use Rattle.cf_policy.specs.Verdict.{verdict_of}
use Rattle.cf_policy.specs.declared.Verdict.TheVariants as verdict
use Rattle.cf_lane.specs.Acts.{by_refusal, first_refusal, unrated}
use Rattle.cf_lane.proofs.Commands.{admitted_at_end, allowed_at, refused_at}
use Rattle.cf_lane.proofs.Runs.{one_has}
use Rattle.cf_lane.proofs.ActsShown.{all_shown, shown_to}
use Rattle.cf_lane.proofs.fate.judge_unrated.Goals as goal

pub returns-in-Refuse-clause-fate : goal.returns-in-Refuse-clause-fate
returns-in-Refuse-clause-fate g c = λ client acts is size gives.
    (let says = verdict_of c.args.asset.now client in
    refused_at says acts c.loop-i.i c.act_at-act.result
    (gives c.loop-i.i c.act_at-act.result (omega (arith, size, c.loop-i-test.true)) (search of_calls))
    (c.loop-i.invariant client acts is size gives).0 (unrated c.args.asset.now.rules says acts) c.in-Refuse.decider c.in-Refuse.reason (c.in-Refuse.ensures.decides client is))

pub loop-i-init : goal.loop-i-init
loop-i-init g c = λ client acts is size gives. (refl, refl)

pub loop-i-preserved : goal.loop-i-preserved
loop-i-preserved g c = λ client acts is size gives.
    (let says = verdict_of c.args.asset.now client in
    let here = gives c.loop-i.i c.act_at-act.result (omega (arith, size, c.loop-i-test.true)) (search of_calls) in
    let before = c.loop-i.invariant client acts is size gives in (
      allowed_at says acts c.loop-i.i c.act_at-act.result here before.0 c.in-Allow.number (c.in-Allow.ensures.decides client is),
      shown_to c.args.asset.now.rules says acts c.loop-i.i (c.loop-i.i + 1) c.in-Allow.number (verdict.Allow c.in-Allow.number) c.act_at-act.result
          c.loop-i.shown c.show.new.shown (one_has says acts c.loop-i.i c.act_at-act.result (verdict.Allow c.in-Allow.number) here (c.in-Allow.ensures.decides client is)) refl here
          (omega arith) (omega (arith, size, c.loop-i-test.true)) c.show.ensures before.1,
    ))

pub returns-clause-fate : goal.returns-clause-fate
returns-clause-fate g c = λ client acts is size gives.
    (let says = verdict_of c.args.asset.now client in
    let so_far = c.loop-i.invariant client acts is size gives in
    let past : length acts ≤ c.loop-i.i = omega (arith, size, c.loop-i-test.false) in
    admitted_at_end says acts c.loop-i.i (record { used = replicate 16 false; shown = c.loop-i.shown }) past so_far.0
    ∙ ap (λ x. by_refusal (record { used = replicate 16 false; shown = x }) (first_refusal says acts)) (all_shown c.args.asset.now.rules says acts c.loop-i.i c.loop-i.shown past so_far.1))
