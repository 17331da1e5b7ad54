use Rattle.std.proofs.Common.{take, ◌≤◌}
use Rattle.cf_policy.proofs.Runs.{AreSteady}
use Rattle.cf_policy.proofs.run.pairs_until.Given as goal

abbrev pub invariant-loop-pair : goal.invariant-loop-pair
invariant-loop-pair l = AreSteady l.rules l.first l.reached (take l.pair-index l.pairs) × (l.first ≤ l.reached) × (l.reached ≤ l.last)
