use Rattle.std.proofs.Common.{◌∙◌, ◌≤◌, ap, arith, length, refl, sym}
use Rattle.std.specs.Prelude.{map}
use Rattle.cf_modbus.specs.Acts.{acts}
use Rattle.cf_modbus.specs.Request.{request_value}
use Rattle.cf_lane.specs.Acts.{admission, by_refusal, first_refusal, first_shown}
use Rattle.cf_lane.proofs.ActsShown.{all_shown, shown_to}
use Rattle.cf_lane.specs.Rates.{rated}
use Rattle.cf_lane.specs.Ring.{ring_rate}
use Rattle.cf_lane.specs.Rings.{says_by}
use Rattle.cf_lane.proofs.Commands.{admitted_at_end, all_used, none_used, refused_at}
use Rattle.cf_lane.proofs.Runs.{allowed_to, said_run, used_to}
use Rattle.cf_lane.proofs.run.judge_rated_runs.Goals as goal

pub loop-i-init : goal.loop-i-init
loop-i-init c = record {
  size = refl;
  inside = omega arith;
  so_far = λ client is. (refl, none_used (rated c.args.asset.now.rules) (says_by c.args.asset.now client c.args.rules.now c.args.moment) (acts (request_value c.args.request.now)) _ refl, refl);
}

pub loop-i-preserved : goal.loop-i-preserved
loop-i-preserved c = record {
  size = c.mark.ensures.length ∙ c.loop-i.invariant.size;
  inside = omega (arith, c.judge_run-verdict.ensures.within, c.act_count-count.ensures.count);
  so_far = λ client is.
      (let says = says_by c.args.asset.now client c.args.rules.now c.args.moment in
      let list = acts (request_value c.args.request.now) in
      let have = said_run c.args.asset.now client c.args.rules.now c.args.moment list c.loop-i.i c.judge_run-verdict.result.1 c.judge_run-verdict.result.0 c.said.result c.said.ensures.said (c.judge_run-verdict.ensures.run client is.index) in
      let before = c.loop-i.invariant.so_far client is in (
        allowed_to says list c.loop-i.i c.judge_run-verdict.result.1 c.in-Allow.number c.said.result have c.in-Allow.is (omega (arith, c.judge_run-verdict.ensures.more))
            c.judge_run-verdict.ensures.within before.0,
        used_to (rated c.args.asset.now.rules) (map ring_rate c.args.rules.now.rings.items) says list c.loop-i.i c.judge_run-verdict.result.1 c.in-Allow.number c.said.result
            c.loop-i.used c.mark.new.used is.rings have c.in-Allow.is c.judge_run-verdict.ensures.more c.judge_run-verdict.ensures.within c.mark.ensures.marks before.1,
        shown_to c.args.asset.now.rules says list c.loop-i.i c.judge_run-verdict.result.1 c.in-Allow.number c.said.result c.act_at-act.result
            c.loop-i.shown c.show.new.shown have c.in-Allow.is c.act_at-act.ensures c.judge_run-verdict.ensures.more c.judge_run-verdict.ensures.within c.show.ensures before.2,
      ));
}

pub returns-in-Refuse-clause-fate : goal.returns-in-Refuse-clause-fate
returns-in-Refuse-clause-fate c = λ client is.
    (let says = says_by c.args.asset.now client c.args.rules.now c.args.moment in
    let list = acts (request_value c.args.request.now) in
    refused_at says list c.loop-i.i c.act_at-act.result c.act_at-act.ensures (c.loop-i.invariant.so_far client is).0 (admission c.args.asset.now says list)
    c.in-Refuse.decider c.in-Refuse.reason
    (sym c.in-Refuse.is ∙ sym (said_run c.args.asset.now client c.args.rules.now c.args.moment list c.loop-i.i c.judge_run-verdict.result.1 c.judge_run-verdict.result.0 c.said.result c.said.ensures.said (c.judge_run-verdict.ensures.run client is.index) c.loop-i.i c.act_at-act.result (omega arith) c.judge_run-verdict.ensures.more c.act_at-act.ensures)))

pub returns-clause-fate : goal.returns-clause-fate
returns-clause-fate c = λ client is.
    (let says = says_by c.args.asset.now client c.args.rules.now c.args.moment in
    let list = acts (request_value c.args.request.now) in
    let so_far = c.loop-i.invariant.so_far client is in
    let past : length list ≤ c.loop-i.i = omega (arith, c.loop-i-test.false, c.act_count-count.ensures.count) in
    admitted_at_end says list c.loop-i.i (record { used = c.loop-i.used; shown = c.loop-i.shown }) past so_far.0
    ∙ ap (λ x. by_refusal (record { used = c.loop-i.used; shown = x }) (first_refusal says list)) (all_shown c.args.asset.now.rules says list c.loop-i.i c.loop-i.shown past so_far.2)
    ∙ ap (λ used. by_refusal (record { used = used; shown = first_shown c.args.asset.now.rules says list }) (first_refusal says list)) (all_used (rated c.args.asset.now.rules) says list c.loop-i.i c.loop-i.used past c.loop-i.invariant.size so_far.1))
