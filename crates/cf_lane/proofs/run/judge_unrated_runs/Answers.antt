use Rattle.std.proofs.Common.{◌≤◌, ap, arith, false, length, refl, replicate, sym, ◌∙◌}
use Rattle.cf_modbus.specs.Acts.{acts}
use Rattle.cf_modbus.specs.Request.{request_value}
use Rattle.cf_policy.specs.Verdict.{verdict_of}
use Rattle.cf_lane.specs.Acts.{by_refusal, first_refusal, unrated}
use Rattle.cf_lane.proofs.Commands.{admitted_at_end, refused_at}
use Rattle.cf_lane.proofs.Runs.{allowed_to}
use Rattle.cf_lane.proofs.ActsShown.{all_shown, shown_to}
use Rattle.cf_lane.proofs.run.judge_unrated_runs.Goals as goal

pub loop-i-init : goal.loop-i-init
loop-i-init c = record { inside = omega arith; so_far = λ client is. (refl, refl) }

pub loop-i-preserved : goal.loop-i-preserved
loop-i-preserved c = record {
  inside = omega (arith, c.judge_run-verdict.ensures.within, c.act_count-count.ensures.count);
  so_far = λ client is.
      (let says = verdict_of c.args.asset.now client in
      let list = acts (request_value c.args.request.now) in
      let have = c.judge_run-verdict.ensures.run client is in
      let before = c.loop-i.invariant.so_far client is in (
        allowed_to says list c.loop-i.i c.judge_run-verdict.result.1 c.in-Allow.number c.judge_run-verdict.result.0
            have c.in-Allow.is (omega (arith, c.judge_run-verdict.ensures.more)) c.judge_run-verdict.ensures.within before.0,
        shown_to c.args.asset.now.rules says list c.loop-i.i c.judge_run-verdict.result.1 c.in-Allow.number c.judge_run-verdict.result.0 c.act_at-act.result
            c.loop-i.shown c.show.new.shown have c.in-Allow.is c.act_at-act.ensures c.judge_run-verdict.ensures.more c.judge_run-verdict.ensures.within c.show.ensures before.1,
      ));
}

pub returns-in-Refuse-clause-fate : goal.returns-in-Refuse-clause-fate
returns-in-Refuse-clause-fate c = λ client is.
    (let says = verdict_of c.args.asset.now client in
    let list = acts (request_value c.args.request.now) in
    refused_at says list c.loop-i.i c.act_at-act.result c.act_at-act.ensures (c.loop-i.invariant.so_far client is).0 (unrated c.args.asset.now.rules says list)
    c.in-Refuse.decider c.in-Refuse.reason
    (sym c.in-Refuse.is ∙ sym (c.judge_run-verdict.ensures.run client is c.loop-i.i c.act_at-act.result (omega arith) c.judge_run-verdict.ensures.more c.act_at-act.ensures)))

pub returns-clause-fate : goal.returns-clause-fate
returns-clause-fate c = λ client is.
    (let says = verdict_of c.args.asset.now client in
    let list = acts (request_value c.args.request.now) in
    let past : length list ≤ c.loop-i.i = omega (arith, c.loop-i-test.false, c.act_count-count.ensures.count) in
    let so_far = c.loop-i.invariant.so_far client is in
    admitted_at_end says list c.loop-i.i (record { used = replicate 16 false; shown = c.loop-i.shown }) past so_far.0
    ∙ ap (λ x. by_refusal (record { used = replicate 16 false; shown = x }) (first_refusal says list)) (all_shown c.args.asset.now.rules says list c.loop-i.i c.loop-i.shown past so_far.1))
