use Rattle.std.proofs.Common.{◌-◌, ◌≡◌, ◌≤◌, drop}
use Rattle.cf_dnpobj.specs.Headers.{headers_in}
use Rattle.cf_dnpobj.specs.Fragment.{counted}
use Rattle.cf_dnpobj.proofs.Sums.{plus}
use Rattle.cf_dnpobj.proofs.header.count_headers.Given as goal

abbrev pub invariant-loop-at : goal.invariant-loop-at
invariant-loop-at l =
    (l.at ≤ l.len) × (l.count ≤ l.at)
    × (counted (headers_in l.code l.objects.bytes) ≡ plus l.count (counted (headers_in l.code (drop l.at l.objects.bytes))))

abbrev pub decreases-loop-at : goal.decreases-loop-at
decreases-loop-at l = l.len - l.at
