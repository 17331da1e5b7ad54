use Rattle.std.proofs.Common.{ℕ, ◌≡◌, ◌<◌, length, get_or}
use Rattle.cf_policy.specs.PointTable.{IsCellOf}
use Rattle.cf_policy.specs.declared.index.CodePair.{CodePair}
use Rattle.cf_policy.specs.declared.point_table.PointCell.{PointCell}
use Rattle.cf_policy.proofs.point_table.cells_of.Given as goal

-- the cells so far are those of the pairs so far
abbrev pub invariant-loop-pair : goal.invariant-loop-pair
invariant-loop-pair l =
    (length l.cells.items ≡ l.pair-index)
    × ((k : ℕ) (d : CodePair) (e : PointCell) → k < l.pair-index → IsCellOf l.rules (get_or l.pairs k d) (get_or l.cells.items k e))
