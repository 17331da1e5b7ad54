use Rattle.std.proofs.Common.{arith, ap, length, ◌+◌, ◌≤◌, of_calls, refl, ◌∙◌}
use Rattle.cf_lane.specs.Acts.{admission, by_refusal, first_refusal, first_shown}
use Rattle.cf_lane.proofs.ActsShown.{all_shown, shown_to}
use Rattle.cf_lane.specs.Rates.{rated}
use Rattle.cf_lane.specs.Ring.{ring_rate}
use Rattle.cf_lane.specs.Rings.{says_by}
use Rattle.std.specs.Prelude.{map}
use Rattle.cf_lane.proofs.Commands.{admitted_at_end, all_used, allowed_at, none_used, refused_at}
use Rattle.cf_lane.proofs.Runs.{one_has, used_to}
use Rattle.cf_policy.specs.declared.Verdict.TheVariants as verdict
use Rattle.cf_lane.proofs.fate.judge_rated.Goals as goal

pub returns-in-Refuse-clause-fate : goal.returns-in-Refuse-clause-fate
returns-in-Refuse-clause-fate g c = λ client acts is size gives.
    (let says = says_by c.args.asset.now client c.args.rules.now c.args.moment in
    refused_at says acts c.loop-i.i c.act_at-act.result
    (gives c.loop-i.i c.act_at-act.result (omega (arith, size, c.loop-i-test.true)) (search of_calls))
    (c.loop-i.invariant.so_far client acts is size gives).0 (admission c.args.asset.now says acts) c.in-Refuse.decider c.in-Refuse.reason (c.in-Refuse.ensures.says client is))

pub loop-i-init : goal.loop-i-init
loop-i-init g c = record { size = refl; so_far = λ client acts is size gives. (refl, none_used (rated c.args.asset.now.rules) (says_by c.args.asset.now client c.args.rules.now c.args.moment) acts _ refl, refl) }

pub loop-i-preserved : goal.loop-i-preserved
loop-i-preserved g c = record {
  size = c.mark.ensures.length ∙ c.loop-i.invariant.size;
  so_far = λ client acts is size gives.
      (let says = says_by c.args.asset.now client c.args.rules.now c.args.moment in
      let here = gives c.loop-i.i c.act_at-act.result (omega (arith, size, c.loop-i-test.true)) (search of_calls) in
      let before = c.loop-i.invariant.so_far client acts is size gives in (
        allowed_at says acts c.loop-i.i c.act_at-act.result here before.0 c.in-Allow.number (c.in-Allow.ensures.says client is),
        used_to (rated c.args.asset.now.rules) (map ring_rate c.args.rules.now.rings.items) says acts c.loop-i.i (c.loop-i.i + 1) c.in-Allow.number (verdict.Allow c.in-Allow.number)
            c.loop-i.used c.mark.new.used is.rings (one_has says acts c.loop-i.i c.act_at-act.result (verdict.Allow c.in-Allow.number) here (c.in-Allow.ensures.says client is)) refl
            (omega arith) (omega (arith, size, c.loop-i-test.true)) c.mark.ensures.marks before.1,
        shown_to c.args.asset.now.rules says acts c.loop-i.i (c.loop-i.i + 1) c.in-Allow.number (verdict.Allow c.in-Allow.number) c.act_at-act.result
            c.loop-i.shown c.show.new.shown (one_has says acts c.loop-i.i c.act_at-act.result (verdict.Allow c.in-Allow.number) here (c.in-Allow.ensures.says client is)) refl here
            (omega arith) (omega (arith, size, c.loop-i-test.true)) c.show.ensures before.2,
      ));
}

pub returns-clause-fate : goal.returns-clause-fate
returns-clause-fate g c = λ client acts is size gives.
    (let says = says_by c.args.asset.now client c.args.rules.now c.args.moment in
    let so_far = c.loop-i.invariant.so_far client acts is size gives in
    let past : length acts ≤ c.loop-i.i = omega (arith, size, c.loop-i-test.false) in
    admitted_at_end says acts c.loop-i.i (record { used = c.loop-i.used; shown = c.loop-i.shown }) past so_far.0
    ∙ ap (λ x. by_refusal (record { used = c.loop-i.used; shown = x }) (first_refusal says acts)) (all_shown c.args.asset.now.rules says acts c.loop-i.i c.loop-i.shown past so_far.2)
    ∙ ap (λ used. by_refusal (record { used = used; shown = first_shown c.args.asset.now.rules says acts }) (first_refusal says acts)) (all_used (rated c.args.asset.now.rules) says acts c.loop-i.i c.loop-i.used past c.loop-i.invariant.size so_far.1))
