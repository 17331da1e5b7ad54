use Rattle.std.proofs.Common.{Err, ap, map, refl, subst, sym}
use Rattle.std.specs.Prelude.{All}
use Rattle.cf_watch.specs.FlowValue.{IsForAsset, flow_value}
use Rattle.cf_words.specs.Command.{Judge}
use Rattle.cf_box.specs.Ends.{Meets}
use Rattle.cf_box.specs.Judge.{SaysOfFlows}
use Rattle.cf_ending.specs.Outside.{files_value, outside}
use Rattle.cf_box.proofs.Judging.{flows_meet, watch_stops}
use Rattle.cf_box.proofs.judge.judge_capture.Goals as goal

pub returns-in-Err-clause-meets : goal.returns-in-Err-clause-meets
returns-in-Err-clause-meets g c = λ sink pair. (
  c.in-Err.ensures.stop (Judge c.args.policy.now c.args.capture.now) sink pair refl,
  record { unwritten = c.in-Err.ensures.unwritten; same = record { content = c.load_policy.ensures.only.content; sink = refl; pair = refl } },
)

pub returns-in-Err-watch-clause-meets : goal.returns-in-Err-watch-clause-meets
returns-in-Err-watch-clause-meets g c = λ sink pair.
    let before = outside (files_value g.F.Files c.args.files.now) sink pair in
    let middle = outside (files_value g.F.Files c.load_policy.new.files) sink pair in
    let after = outside (files_value g.F.Files c.watch.new.files) sink pair in
    subst (λ s. Meets (Judge c.args.policy.now c.args.capture.now) before after (Err s)) (sym c.fault_stop.ensures)
    (watch_stops c.args.policy.now c.args.capture.now before middle after c.in-Ok.meaning c.in-Ok.ensures.has c.load_policy.ensures.only c.watch.ensures.reads.same refl refl
    c.in-Err-watch.fault c.in-Err-watch.ensures.fault (λ is. c.in-Err-watch.ensures.reads.cause.rose (ap Err is)))

pub returns-clause-meets : goal.returns-clause-meets
returns-clause-meets g c = λ sink pair.
    let before = outside (files_value g.F.Files c.args.files.now) sink pair in
    let middle = outside (files_value g.F.Files c.load_policy.new.files) sink pair in
    let after = outside (files_value g.F.Files c.watch.new.files) sink pair in
    flows_meet c.args.policy.now c.args.capture.now before middle after c.in-Ok.meaning c.in-Ok.ensures.has c.load_policy.ensures.only c.watch.ensures.reads.same refl refl
    (map flow_value c.in-Ok-watch.flows.items) c.in-Ok-watch.ensures.watched c.judge_flows.result
    (subst (λ l. SaysOfFlows c.in-Ok.meaning (map flow_value l) c.judge_flows.result) c.as_slice.ensures.value c.judge_flows.ensures)

pub judge_flows-requires-clause-flows : goal.judge_flows-requires-clause-flows
judge_flows-requires-clause-flows g c =
    subst (λ l. All (IsForAsset c.in-Ok.meaning.assets) (map flow_value l)) (sym c.as_slice.ensures.value) c.in-Ok-watch.ensures.for_assets
