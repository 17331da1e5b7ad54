use Rattle.std.proofs.Common.{◌≡◌, ◌+◌, ◌<◌, ◌++◌, ◌∷◌, [], ◌∙◌, sym, ap, subst, refl, arith, take, map, length, Some, slice_get}
use Rattle.std.proofs.lemmas.List.{map-append, map_more, take_all}
use Rattle.std.proofs.lemmas.Option.{slice_get_read}
use Rattle.cf_watch.specs.FlowValue.{flow_value}
use Rattle.cf_draft.specs.Parts.{AddsRead}
use Rattle.cf_draft.proofs.Reading.{adds_none, adds_one, for_flow}
use Rattle.cf_draft.proofs.parts.add_flows.Goals as goal

pub loop-flow-init : goal.loop-flow-init
loop-flow-init c = adds_none c.args.assets.now _

pub bounds-assets-flow : goal.bounds-assets-flow
bounds-assets-flow c =
    let here = for_flow c.args.assets.now c.args.flows.now c.requires.flows c.loop-flow.flow-index c.flow-item.result c.loop-flow-test.true c.flow-item.is in
    omega (arith, here.asset)

pub add_part-requires : goal.add_part-requires
add_part-requires c = record { born = (for_flow c.args.assets.now c.args.flows.now c.requires.flows c.loop-flow.flow-index c.flow-item.result c.loop-flow-test.true c.flow-item.is).born }

pub loop-flow-preserved : goal.loop-flow-preserved
loop-flow-preserved c =
    let assets = c.args.assets.now in
    let flows = c.args.flows.now in
    let i = c.loop-flow.flow-index in
    let f = c.flow-item.result in
    let start = map flow_value c.args.parts.now.flows.items in
    let old = map flow_value c.loop-flow.parts.flows.items in
    let new = map flow_value c.add_part.new.parts.flows.items in
    let inside : i < length flows = c.loop-flow-test.true in
    let added = c.in_ok-add_part.ensures in
    let values : map flow_value (take i flows) ++ flow_value f ∷ [] ≡ map flow_value (take (i + 1) flows) =
    ap (λ g. map flow_value (take i flows) ++ flow_value g ∷ []) c.flow-item.is ∙ sym (map_more flow_value flows i f inside) in
    let here = for_flow assets flows c.requires.flows i f inside c.flow-item.is in
    let below : f.asset < length assets = omega (arith, here.asset) in
    let at : slice_get assets f.asset ≡ Some c.index-assets-flow.result = slice_get_read assets (length assets) f.asset c.index-assets-flow.result refl below c.index-assets-flow.is in
    let behind : new ≡ old ++ flow_value added.0 ∷ [] = ap (map flow_value) added.2 ∙ map-append flow_value c.loop-flow.parts.flows.items (added.0 ∷ []) in
    subst (λ fs. AddsRead assets fs start new) values
    (adds_one assets (map flow_value (take i flows)) start old new (flow_value f) (flow_value added.0) c.index-assets-flow.result c.loop-flow.invariant at added.1 behind)

pub returns : goal.returns
returns c =
    let all : map flow_value (take c.loop-flow.flow-index c.args.flows.now) ≡ map flow_value c.args.flows.now =
    ap (map flow_value) (take_all c.loop-flow.flow-index c.args.flows.now (omega (arith, c.loop-flow-test.false))) in
    subst (λ fs. AddsRead c.args.assets.now fs (map flow_value c.args.parts.now.flows.items) (map flow_value c.loop-flow.parts.flows.items)) all c.loop-flow.invariant
