use Rattle.std.proofs.Common.{◌≡◌, ◌++◌, List, length, map, take}
use Rattle.cf_lane.specs.Acts.{GivesActs}
use Rattle.cf_view.specs.declared.Act.{Act}
use Rattle.cf_learn.specs.Seen.{seen_of}
use Rattle.cf_learn.proofs.reading.push_acts.Given as goal

abbrev pub invariant-loop-i : goal.invariant-loop-i
invariant-loop-i g l =
    (acts : List Act) → length acts ≡ l.count → GivesActs (goal.F-post g l.act_at) acts → l.seen.items ≡ l.fn.seen.items ++ map (seen_of l.client) (take l.i acts)
