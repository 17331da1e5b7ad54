use Rattle.std.proofs.Common.{rules, ◌≡◌, ◌≤◌, ◌<◌, ◌+◌, ◌++◌, [], ◌∙◌, List, Some, option_map, drop, length, map, slice_get, refl, sym, ap, arith, append-nil, append_assoc}
use Rattle.std.proofs.Math.ListN.{drop_of_length-le}
use Rattle.std.proofs.lemmas.List.{length-set}
use Rattle.std.proofs.lemmas.Option.{slice_get-map, slice_get_read}
use Rattle.cf_watch.specs.FlowValue.{FlowValue, StretchValue, stretch_value}
use Rattle.cf_watch.specs.Stretches.{all_stretches, stretches_of}
use Rattle.cf_watch.specs.Trail.{Heard}
use Rattle.cf_watch.specs.Watched.{Watched}
use Rattle.cf_watch.proofs.Runs.{stretches_on, trails_behind}
use Rattle.cf_watch.proofs.Tables.{flow_at}
use Rattle.cf_watch.proofs.stretches.stretches_in.Goals as goal

pub add_stretches-requires : goal.add_stretches-requires
add_stretches-requires c =
    let was = c.loop-place.invariant in
    let i = c.loop-place.place in
    let now = c.loop-place.watch.trails.items in
    let trail = c.index_mut.result.now in
    let below : i < length c.args.watch.now.flows.items = search rules in
    let inside : i < length now = omega (arith, below, was.trail_count, c.requires.sizes) in
    let trail_is : slice_get c.args.watch.now.trails.items i ≡ Some trail = sym (was.trails i (omega arith)) ∙ slice_get_read now (length now) i trail refl inside c.index_mut.ensures.value in
    record { base = c.requires.bases i trail trail_is }

pub loop-place-preserved : goal.loop-place-preserved
loop-place-preserved c =
    let was = c.loop-place.invariant in
    let i = c.loop-place.place in
    let flows = c.args.watch.now.flows.items in
    let trails = c.args.watch.now.trails.items in
    let now = c.loop-place.watch.trails.items in
    let flow = c.index.result.now in
    let trail = c.index_mut.result.now in
    let below : i < length flows = search rules in
    let flow_is : slice_get flows i ≡ Some flow = slice_get_read flows (length flows) i flow refl below (search rules) in
    let inside : i < length now = omega (arith, below, was.trail_count, c.requires.sizes) in
    let trail_is : slice_get trails i ≡ Some trail = sym (was.trails i (omega arith)) ∙ slice_get_read now (length now) i trail refl inside c.index_mut.ensures.value in
    record {
      flows = was.flows;
      trail_count = length-set now i c.add_stretches.new.trail ∙ was.trail_count;
      trails = trails_behind now trails i c.add_stretches.new.trail was.trails;
      stretches = λ by number ws hs s.
          let in_ws : i < length ws = omega (arith, below, s.flow_count) in
          let w = flow_at ws i in_ws in
          let h = flow_at hs i (omega (arith, in_ws, s.heard_count)) in
          let value : Heard → FlowValue = λ g. g.value in
          let is = s.each i flow trail w.0 h.0 flow_is trail_is w.1 h.1 in
          let old = map stretch_value c.loop-place.stretches.items in
          let more = stretches_of w.0 h.0.value in
          let rest = all_stretches (drop (i + 1) ws) (drop (i + 1) (map value hs)) in
          ap (λ (xs : List StretchValue). xs ++ rest) (c.in_ok-add_stretches.ensures by w.0 h.0 is) ∙ append_assoc old more rest
          ∙ ap (λ (xs : List StretchValue). old ++ xs) (sym (stretches_on ws (map value hs) i w.0 h.0.value w.1 (slice_get-map value hs i ∙ ap (option_map value) h.1)))
          ∙ was.stretches by number ws hs s;
    }

pub returns-clause-stretches : goal.returns-clause-stretches
returns-clause-stretches c = λ by number ws hs s.
    let was = c.loop-place.invariant in
    let i = c.loop-place.place in
    let flows = c.args.watch.now.flows.items in
    let value : Heard → FlowValue = λ g. g.value in
    let old = map stretch_value c.loop-place.stretches.items in
    let past : length flows ≤ i = search rules in
    let none : drop i ws ≡ [] = drop_of_length-le ws (omega (arith, past, s.flow_count)) in
    sym (append-nil old) ∙ ap (λ (xs : List Watched). old ++ all_stretches xs (drop i (map value hs))) (sym none) ∙ was.stretches by number ws hs s
