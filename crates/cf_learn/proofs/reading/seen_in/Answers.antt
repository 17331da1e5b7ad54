use Rattle.std.proofs.Common.{ℕ, List, [], ◌∷◌, ◌++◌, ap, map, subst, sym, take}
use Rattle.std.proofs.lemmas.List.{take_all}
use Rattle.std.proofs.lemmas.Result.{IfOk-weaker}
use Rattle.cf_watch.specs.FlowValue.{flow_value}
use Rattle.cf_learn.specs.Assets.{AreSeen}
use Rattle.cf_learn.specs.Polls.{AreGathered}
use Rattle.cf_learn.specs.Reading.{AddsSame, HaveSame}
use Rattle.cf_learn.specs.Shown.{IsShown}
use Rattle.cf_learn.specs.declared.seen.Seen.{Seen}
use Rattle.cf_learn.proofs.Flows.{flows_next, seen_first, seen_gathered, seen_other, seen_same}
use Rattle.cf_learn.proofs.reading.seen_in.Goals.{then-flow-place+in_ok-push_bytes, else-flow-place}
use Rattle.cf_learn.proofs.reading.seen_in.Goals as goal

pub loop-flow-init : goal.loop-flow-init
loop-flow-init c = record {
  seen = subst (AreSeen c.args.asset.now c.args.place []) (sym c.new-seen.ensures) (seen_first c.args.asset.now c.args.place);
  polls = c.in_ok-polls.ensures (c.new-seen.result.sorted.items ++ c.new-seen.result.loose.items);
}

pub loop-flow-preserved : goal.loop-flow-preserved
loop-flow-preserved c =
    let asset = c.args.asset.now in
    let flows = c.args.flows.now in
    let i = c.loop-flow.flow-index in
    let f = flow_value c.flow-item.result in
    let now = map flow_value (take i flows) ++ f ∷ [] in
    let old : List Seen = c.loop-flow.seen.sorted.items ++ c.loop-flow.seen.loose.items in
    record {
      seen = subst (λ fs. AreSeen asset c.args.place fs (c.if-flow-place.seen.sorted.items ++ c.if-flow-place.seen.loose.items)) (sym (flows_next flows i c.flow-item.result c.loop-flow-test.true c.flow-item.is))
          (elim c.if-flow-place.branch [
            | then-flow-place+in_ok-push_bytes w ↦
                let new : List Seen = w.push_bytes.new.seen.sorted.items ++ w.push_bytes.new.seen.loose.items in
                subst (AreSeen asset c.args.place now) (sym (ap (λ v. v.sorted.items ++ v.loose.items) w.seen-is))
                (seen_gathered asset c.args.place (map flow_value (take i flows)) f old new w.if-flow-place.true w.in_ok-push_bytes.ensures.client
                (subst (λ (xs : List ℕ). AddsSame asset.protocol f.client.address (IsShown asset xs) old new) w.as_slice.ensures.value w.in_ok-push_bytes.ensures.adds)
                c.loop-flow.invariant.seen)
            | else-flow-place w ↦
                subst (AreSeen asset c.args.place now) (sym (ap (λ v. v.sorted.items ++ v.loose.items) w.seen-is))
                (seen_other asset c.args.place (map flow_value (take i flows)) f old w.if-flow-place.false c.loop-flow.invariant.seen)
          ]);
      polls = elim c.if-flow-place.branch [
        | then-flow-place+in_ok-push_bytes w ↦
            subst (λ v. AreGathered (v.sorted.items ++ v.loose.items) c.if-flow-place.polls) (sym w.seen-is)
            (subst (λ p. AreGathered (w.push_bytes.new.seen.sorted.items ++ w.push_bytes.new.seen.loose.items) p) (sym w.polls-is) w.in_ok-push_bytes.ensures.polls)
        | else-flow-place w ↦
            subst (λ v. AreGathered (v.sorted.items ++ v.loose.items) c.if-flow-place.polls) (sym w.seen-is)
            (subst (λ p. AreGathered old p) (sym w.polls-is) c.loop-flow.invariant.polls)
      ];
    }

pub returns-clause-seen : goal.returns-clause-seen
returns-clause-seen c =
    let asset = c.args.asset.now in
    let flows = map flow_value c.args.flows.now in
    let all = c.loop-flow.seen.sorted.items ++ c.loop-flow.seen.loose.items in
    IfOk-weaker c.finish.result (λ seen. HaveSame seen.items all) (λ seen. AreSeen asset c.args.place flows seen.items)
    (λ seen same. seen_same asset c.args.place flows seen.items all same
    (subst (λ fs. AreSeen asset c.args.place (map flow_value fs) all) (take_all c.loop-flow.flow-index c.args.flows.now c.loop-flow-test.false) c.loop-flow.invariant.seen))
    c.finish.ensures.same
