use Rattle.std.proofs.Common.{◌+◌, ◌-◌, ◌≤◌, ℕ}
use Rattle.cf_dnpobj.specs.Acts.{IsMark}
use Rattle.cf_dnpobj.proofs.marks.later_mark.Given as goal

abbrev pub invariant-loop-at : goal.invariant-loop-at
invariant-loop-at l =
    (l.at ≤ l.len) × (l.left ≤ l.fn.mark.left + 16)
    × ((i : ℕ) → IsMark l.code l.objects.bytes i l.fn.mark → IsMark l.code l.objects.bytes (i + 16) (record { at = l.at; left = l.left }))

abbrev pub decreases-loop-at : goal.decreases-loop-at
decreases-loop-at l = l.len - l.at
