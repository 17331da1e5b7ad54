use Rattle.std.proofs.Common.{◌-◌, ◌≤◌, ℕ}
use Rattle.cf_dnpobj.specs.Acts.{LeavesActs}
use Rattle.cf_dnpobj.proofs.acts.find_from.Given as goal

abbrev pub invariant-loop-at : goal.invariant-loop-at
invariant-loop-at l =
    (l.at ≤ l.len) × ((i : ℕ) → LeavesActs l.code l.objects.bytes i l.from l.before → LeavesActs l.code l.objects.bytes i l.at l.left)

abbrev pub decreases-loop-at : goal.decreases-loop-at
decreases-loop-at l = l.len - l.at
