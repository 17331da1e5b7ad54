use Rattle.std.proofs.Common.{map}
use Rattle.cf_watch.specs.FlowValue.{flow_value, stretch_value}
use Rattle.cf_box.proofs.draft.read_captures.Goals as goal

pub returns-in-Ok-read_parts-clause-read : goal.returns-in-Ok-read_parts-clause-read
returns-in-Ok-read_parts-clause-read g c =
    let r = c.in-Ok.recording in
    record {
      flows = map flow_value r.flows.items;
      stretches = map stretch_value r.stretches.items;
      stamps = r.stamps.items;
      recorded = c.in-Ok.ensures.recording;
      are_read = c.in-Ok-read_parts.ensures;
    }
