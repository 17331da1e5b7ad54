use Rattle.std.proofs.Common.{map, take}
use Rattle.cf_watch.specs.FlowValue.{flow_value}
use Rattle.cf_learn.specs.Assets.{AreLearned}
use Rattle.cf_learn.proofs.assets.learn.Given as goal

abbrev pub invariant-loop-place : goal.invariant-loop-place
invariant-loop-place l = AreLearned (map flow_value l.flows) l.policy.assets (take l.place l.policy.assets) l.learned.items
