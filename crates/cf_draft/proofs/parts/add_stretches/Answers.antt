use Rattle.std.proofs.Common.{◌≡◌, ◌+◌, ◌<◌, ◌++◌, ◌∷◌, [], ◌∙◌, ap, subst, refl, arith, take, map, length, Some, slice_get}
use Rattle.std.proofs.lemmas.List.{map-append, take_all}
use Rattle.std.proofs.lemmas.Option.{slice_get_read}
use Rattle.cf_watch.specs.FlowValue.{flow_value}
use Rattle.cf_draft.specs.Parts.{AddsRead}
use Rattle.cf_draft.proofs.Reading.{adds_none, adds_one, flows_in, flows_more, for_stretch}
use Rattle.cf_draft.proofs.parts.add_stretches.Goals as goal

pub loop-stretch-init : goal.loop-stretch-init
loop-stretch-init c = adds_none c.args.assets.now _

pub bounds-assets-stretch : goal.bounds-assets-stretch
bounds-assets-stretch c =
    let here = for_stretch c.args.assets.now c.args.stretches.now c.requires.stretches c.loop-stretch.stretch-index c.stretch-item.result c.loop-stretch-test.true c.stretch-item.is in
    omega (arith, here.asset)

pub add_part-requires : goal.add_part-requires
add_part-requires c = record { born = (for_stretch c.args.assets.now c.args.stretches.now c.requires.stretches c.loop-stretch.stretch-index c.stretch-item.result c.loop-stretch-test.true c.stretch-item.is).born }

pub loop-stretch-preserved : goal.loop-stretch-preserved
loop-stretch-preserved c =
    let assets = c.args.assets.now in
    let stretches = c.args.stretches.now in
    let i = c.loop-stretch.stretch-index in
    let s = c.stretch-item.result in
    let start = map flow_value c.args.parts.now.flows.items in
    let old = map flow_value c.loop-stretch.parts.flows.items in
    let new = map flow_value c.add_part.new.parts.flows.items in
    let inside : i < length stretches = c.loop-stretch-test.true in
    let added = c.in_ok-add_part.ensures in
    let values : flows_in (take i stretches) ++ flow_value s.flow ∷ [] ≡ flows_in (take (i + 1) stretches) = flows_more stretches i s inside c.stretch-item.is in
    let here = for_stretch assets stretches c.requires.stretches i s inside c.stretch-item.is in
    let below : s.flow.asset < length assets = omega (arith, here.asset) in
    let at : slice_get assets s.flow.asset ≡ Some c.index-assets-stretch.result = slice_get_read assets (length assets) s.flow.asset c.index-assets-stretch.result refl below c.index-assets-stretch.is in
    let behind : new ≡ old ++ flow_value added.0 ∷ [] = ap (map flow_value) added.2 ∙ map-append flow_value c.loop-stretch.parts.flows.items (added.0 ∷ []) in
    subst (λ fs. AddsRead assets fs start new) values
    (adds_one assets (flows_in (take i stretches)) start old new (flow_value s.flow) (flow_value added.0) c.index-assets-stretch.result c.loop-stretch.invariant at added.1 behind)

pub returns : goal.returns
returns c =
    let all : flows_in (take c.loop-stretch.stretch-index c.args.stretches.now) ≡ flows_in c.args.stretches.now =
    ap flows_in (take_all c.loop-stretch.stretch-index c.args.stretches.now (omega (arith, c.loop-stretch-test.false))) in
    subst (λ fs. AddsRead c.args.assets.now fs (map flow_value c.args.parts.now.flows.items) (map flow_value c.loop-stretch.parts.flows.items)) all c.loop-stretch.invariant
