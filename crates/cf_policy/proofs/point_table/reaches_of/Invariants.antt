use Rattle.std.proofs.Common.{ℕ, ◌≡◌, ◌<◌, ◌≤◌, length, get_or}
use Rattle.cf_policy.specs.PointTable.{HasReaches}
use Rattle.cf_policy.specs.declared.point_table.PointCell.{PointCell}
use Rattle.cf_policy.proofs.point_table.reaches_of.Given as goal

-- the cells so far do not reach beyond the number that comes next
abbrev pub invariant-loop-cell : goal.invariant-loop-cell
invariant-loop-cell l =
    (length l.reaches.items ≡ l.cell-index) × HasReaches l.cells l.reaches.items
    × ((i : ℕ) (d : PointCell) → i < l.cell-index → (get_or l.cells i d).last ≤ l.reach)
