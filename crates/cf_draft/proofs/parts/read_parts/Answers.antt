use Rattle.std.proofs.Common.{ap, map, subst, sym}
use Rattle.std.specs.Prelude.{All}
use Rattle.cf_watch.specs.FlowValue.{AreStretchesFor, IsForAsset, flow_value, stretch_value}
use Rattle.cf_draft.specs.Parts.{AddsRead}
use Rattle.cf_draft.proofs.Reading.{adds_both, read_alone}
use Rattle.cf_draft.proofs.parts.read_parts.Goals as goal

pub add_flows-requires : goal.add_flows-requires
add_flows-requires c = record {
  flows = subst (λ a. All (IsForAsset a) (map flow_value c.as_slice.result.now)) (sym c.as_slice-assets.ensures)
      (subst (λ l. All (IsForAsset c.args.policy.now.assets) (map flow_value l)) (sym c.as_slice.ensures.value) c.requires.flows);
}

pub add_stretches-requires : goal.add_stretches-requires
add_stretches-requires c = record {
  stretches = subst (λ a. AreStretchesFor a (map stretch_value c.as_slice-2.result.now)) (sym c.as_slice-assets.ensures)
      (subst (λ l. AreStretchesFor c.args.policy.now.assets (map stretch_value l)) (sym c.as_slice-2.ensures.value) c.requires.stretches);
}

pub returns : goal.returns
returns c =
    let assets = c.args.policy.now.assets in
    let flows = map flow_value c.args.recording.now.flows.items in
    let others = map (λ s. s.flow) (map stretch_value c.args.recording.now.stretches.items) in
    let old = map flow_value c.new-parts.result.flows.items in
    let mid = map flow_value c.add_flows.new.parts.flows.items in
    let new = map flow_value c.add_stretches.new.parts.flows.items in
    let first : AddsRead assets flows old mid =
    subst (λ a. AddsRead a flows old mid) c.as_slice-assets.ensures (subst (λ l. AddsRead c.as_slice-assets.result.now (map flow_value l) old mid) c.as_slice.ensures.value c.in_ok-add_flows.ensures) in
    let second : AddsRead assets others mid new =
    subst (λ a. AddsRead a others mid new) c.as_slice-assets.ensures
    (subst (λ l. AddsRead c.as_slice-assets.result.now (map (λ s. s.flow) (map stretch_value l)) mid new) c.as_slice-2.ensures.value c.in_ok-add_stretches.ensures) in
    read_alone assets _ old new (ap (map flow_value) c.new-parts.ensures) (adds_both assets flows others old mid new first second)
