use Rattle.std.proofs.Common.{map, take}
use Rattle.cf_watch.specs.FlowValue.{flow_value}
use Rattle.cf_draft.specs.Parts.{AddsRead}
use Rattle.cf_draft.proofs.parts.add_flows.Given as goal

-- the first flows were read
abbrev pub invariant-loop-flow : goal.invariant-loop-flow
invariant-loop-flow l = AddsRead l.assets (map flow_value (take l.flow-index l.flows)) (map flow_value l.fn.parts.flows.items) (map flow_value l.parts.flows.items)
