use Rattle.std.proofs.Common.{◌-◌, ◌≡◌, ◌*◌, ◌≤◌, drop}
use Rattle.cf_dnpobj.specs.Headers.{headers_in}
use Rattle.cf_dnpobj.specs.Acts.{summed}
use Rattle.cf_dnpobj.proofs.Sums.{plus}
use Rattle.cf_dnpobj.proofs.acts.sum_acts.Given as goal

abbrev pub invariant-loop-at : goal.invariant-loop-at
invariant-loop-at l =
    (l.at ≤ l.len) × (l.count ≤ 65536 * l.at)
    × (summed l.code (headers_in l.code l.objects.bytes) ≡ plus l.count (summed l.code (headers_in l.code (drop l.at l.objects.bytes))))

abbrev pub decreases-loop-at : goal.decreases-loop-at
decreases-loop-at l = l.len - l.at
