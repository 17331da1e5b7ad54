use Rattle.std.proofs.Common.{rules, ◌≡◌, ◌++◌, ◌∙◌, sym, ap, subst, map, length, List, true, Vec, vec_items, Global}
use Rattle.std.proofs.lemmas.List.{length-map}
use Rattle.std.proofs.lemmas.List.Sorted.{IsNonDecreasingBy-from_sort_by_key, answers_always}
use Rattle.std.proofs.lemmas.Map.Views.{All-map-IsPermutation}
use Rattle.cf_judge.specs.Objections.{commands_in}
use Rattle.cf_watch.specs.FlowValue.{AreStretchesFor, stretch_value}
use Rattle.cf_watch.specs.Trail.{Heard}
use Rattle.cf_watch.specs.declared.flow.Flow.{Flow}
use Rattle.cf_watch.specs.declared.flow.Stretch.{Stretch}
use Rattle.cf_watch.specs.declared.scope.Scope.TheVariants as scope
use Rattle.cf_review.proofs.Finished.{bases_low, followed_all, is_recording, seen, stretches_for, stretches_known, values}
use Rattle.cf_review.proofs.Ordering.{in_order, when_done}
use Rattle.cf_review.specs.Follow.{AreToldOf}
use Rattle.cf_review.specs.Remark.{RemarkValue, remark_value}
use Rattle.cf_review.specs.Review.{AddsStretches, remarks_behind, remarks_on}
use Rattle.cf_review.specs.Stamps.{has_stamp}
use Rattle.cf_review.specs.declared.remark.Remark.{Remark}
use Rattle.cf_review.proofs.reviewer.Reviewer.finish.Goals as goal

pub add_flows-requires-clause-followed : goal.add_flows-requires-clause-followed
add_flows-requires-clause-followed c = let is = c.requires.heard.1 in (is.heard, followed_all c.args.policy.now.assets c.requires.heard.0 c.args.self is)

pub stretches_in-requires-clause-bases : goal.stretches_in-requires-clause-bases
stretches_in-requires-clause-bases c = bases_low c.args.policy.now.assets c.requires.heard.0 c.args.self c.requires.heard.1

pub review_stretches-requires-clause-stretches : goal.review_stretches-requires-clause-stretches
review_stretches-requires-clause-stretches c =
    let assets = c.args.policy.now.assets in
    let newest = c.requires.heard.0 in
    let is = c.requires.heard.1 in
    let others = c.in_ok-stretches.ensures.stretches scope.Recording c.args.self.count (seen assets newest c.args.self is) is.heard is.watches in
    subst (λ (ss : List Stretch). AreStretchesFor assets (map stretch_value ss)) (sym c.as_slice.ensures.value)
    (stretches_for assets newest c.args.self is (map stretch_value c.in_ok-stretches.stretches.items) others)

pub returns : goal.returns
returns c =
    let assets = c.args.policy.now.assets in
    let self = c.args.self in
    let stretches = map stretch_value c.in_ok-stretches.stretches.items in
    let of_flows = map remark_value c.add_flows.new.remarks.items in
    let all = map remark_value c.review_stretches.new.remarks.items in
    let key = λ (r : Remark). r.at_record in
    let more = subst (λ (ss : List Stretch). AddsStretches assets (map stretch_value ss) c.in_ok-of_flows.of_flows of_flows all c.in_ok-admitted.admitted) c.as_slice.ensures.value
    c.in_ok-admitted.ensures.adds in
    let counted : c.count-flows.result ≡ length self.watch.flows.items =
    c.count-flows.ensures ∙ ap (λ (v : Vec Flow Global). length (vec_items v)) c.in_ok-stretches.ensures.flows in
    record {
      reviewed = λ newest is.
          let first = c.in_ok-of_flows.ensures.reviewed is.heard (followed_all assets newest self is) in
          let others = c.in_ok-stretches.ensures.stretches scope.Recording self.count (seen assets newest self is) is.heard is.watches in
          let are : all ≡ remarks_on assets first.readings ++ remarks_behind assets more.behind =
          more.remarks ∙ ap (λ (xs : List RemarkValue). xs ++ remarks_behind assets more.behind) first.remarks_are in
          record {
            flows = values assets newest self is;
            stretches = stretches;
            stamps = _;
            shows = is_recording assets newest self is stretches others;
            reviews = record {
              readings = first.readings;
              of_flows = first.of_flows;
              are_read = first.are_read;
              counts = counted ∙ is.watches.flow_count ∙ sym is.watches.heard_count ∙ sym (length-map is.heard (λ (h : Heard). h.value));
              behind = more.behind;
              are_read_behind = more.are_read;
              admitted = more.admitted_is ∙ ap (λ n. commands_in n (map (λ b. b.reading) more.behind)) first.admitted_is;
              remarks = in_order _ c.review_stretches.new.remarks.items c.sort_by_key.new.self.items (sym are)
                  (IsNonDecreasingBy-from_sort_by_key key c.sort_by_key.new.self.items (when_done c.sort_by_key.result (sym c.if-is_err.ensures.value) c.sort_by_key.ensures.sorted)
                  (λ a r q k. search rules))
                  (c.sort_by_key.ensures.stable key (answers_always _ _ _ (λ q a r q2 k. search rules)));
            };
            are_stamps = is.stamps;
          };
      known =
          let is = c.requires.heard.1 in
          let newest = c.requires.heard.0 in
          let known = has_stamp self.stamps in
          let others = c.in_ok-stretches.ensures.stretches scope.Recording self.count (seen assets newest self is) is.heard is.watches in
          let of_stretches = subst (λ (ss : List Stretch). AreToldOf known (map stretch_value ss)) (sym c.as_slice.ensures.value) (stretches_known assets newest self is stretches others) in
          All-map-IsPermutation remark_value (λ r. known r.at_record ≡ true) c.review_stretches.new.remarks.items c.sort_by_key.new.self.items c.sort_by_key.ensures.permutation
          (c.in_ok-admitted.ensures.told known of_stretches (c.in_ok-of_flows.ensures.told known is.told));
    }
