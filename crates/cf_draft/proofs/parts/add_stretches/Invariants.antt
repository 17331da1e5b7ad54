use Rattle.std.proofs.Common.{map, take}
use Rattle.cf_watch.specs.FlowValue.{flow_value, stretch_value}
use Rattle.cf_draft.specs.Parts.{AddsRead}
use Rattle.cf_draft.proofs.parts.add_stretches.Given as goal

-- the first stretches were read
abbrev pub invariant-loop-stretch : goal.invariant-loop-stretch
invariant-loop-stretch l =
    AddsRead l.assets (map (λ s. s.flow) (map stretch_value (take l.stretch-index l.stretches))) (map flow_value l.fn.parts.flows.items) (map flow_value l.parts.flows.items)
