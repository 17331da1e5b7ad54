use Rattle.std.proofs.Common.{◌-◌, length}
use Rattle.cf_judge.proofs.Reading.{SoFar}
use Rattle.cf_watch.specs.FlowValue.{flow_value}
use Rattle.cf_judge.proofs.judging.judge_flow.Given as goal

abbrev pub invariant-units : goal.invariant-units
invariant-units l = SoFar l.site (flow_value l.flow) l.at l.reader l.found

abbrev pub decreases-units : goal.decreases-units
decreases-units l = length l.flow.bytes.items - l.at
