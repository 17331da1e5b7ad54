use Rattle.std.proofs.Common.{◌++◌, map, take}
use Rattle.cf_watch.specs.FlowValue.{flow_value}
use Rattle.cf_learn.specs.Assets.{AreSeen}
use Rattle.cf_learn.specs.Polls.{AreGathered}
use Rattle.cf_learn.proofs.reading.seen_in.Given as goal

abbrev pub invariant-loop-flow : goal.invariant-loop-flow
invariant-loop-flow l = record {
  seen : AreSeen l.asset l.place (map flow_value (take l.flow-index l.flows)) (l.seen.sorted.items ++ l.seen.loose.items);
  polls : AreGathered (l.seen.sorted.items ++ l.seen.loose.items) l.polls;
}
