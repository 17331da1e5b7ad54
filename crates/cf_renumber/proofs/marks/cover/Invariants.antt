use Rattle.std.proofs.Common.{◌≡◌, length}
use Rattle.cf_renumber.specs.Numbers.{uncovered}
use Rattle.cf_renumber.proofs.marks.cover.Given as goal

abbrev pub invariant-loop-less : goal.invariant-loop-less
invariant-loop-less l = (uncovered l.admitted l.initial.ring.items ≡ uncovered l.left l.ring.items) × (l.ring.capacity ≡ l.initial.ring.capacity)

abbrev pub decreases-loop-less : goal.decreases-loop-less
decreases-loop-less l = length l.ring.items
