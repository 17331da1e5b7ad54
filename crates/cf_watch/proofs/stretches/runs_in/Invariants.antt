use Rattle.std.proofs.Common.{map, reverse}
use Rattle.std.specs.BTreeMap.{btree_map_len}
use Rattle.cf_watch.specs.Kept.{run_value}
use Rattle.cf_watch.proofs.Runs.{HasFirstRuns}
use Rattle.cf_watch.proofs.stretches.runs_in.Given as goal

-- the letters of the first places are taken, and their runs are there
abbrev pub invariant-portions : goal.invariant-portions
invariant-portions l = HasFirstRuns l.count l.fn.ahead l.ahead (reverse (map run_value l.runs.items))

abbrev pub decreases-portions : goal.decreases-portions
decreases-portions l = btree_map_len l.ahead
