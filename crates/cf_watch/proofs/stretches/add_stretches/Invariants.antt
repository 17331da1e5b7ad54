use Rattle.std.proofs.Common.{◌≡◌, ◌++◌, List, length, map, pos, reverse}
use Rattle.cf_watch.specs.FlowValue.{flow_value, stretch_value}
use Rattle.cf_watch.specs.Kept.{HasRuns, run_value}
use Rattle.cf_watch.specs.Stretches.{Run, stretches_from}
use Rattle.cf_watch.proofs.stretches.add_stretches.Given as goal

-- the last runs of all are added
abbrev pub invariant-runs : goal.invariant-runs
invariant-runs l = record {
  all : List Run;
  has : HasRuns l.count l.fn.trail.ahead all;
  added : map stretch_value l.stretches.items ++ stretches_from (flow_value l.flow) (pos l.count) (reverse (map run_value l.runs.items))
      ≡ map stretch_value l.fn.stretches.items ++ stretches_from (flow_value l.flow) (pos l.count) all;
}

abbrev pub decreases-runs : goal.decreases-runs
decreases-runs l = length l.runs.items
