use Rattle.std.proofs.Common.{map, take}
use Rattle.cf_judge.proofs.Flows.{JudgedSoFar}
use Rattle.cf_watch.specs.FlowValue.{flow_value}
use Rattle.cf_judge.proofs.judging.judge.Given as goal

abbrev pub invariant-loop-flow : goal.invariant-loop-flow
invariant-loop-flow l = JudgedSoFar l.policy.assets (map flow_value (take l.flow-index l.flows)) l.commands l.objection
