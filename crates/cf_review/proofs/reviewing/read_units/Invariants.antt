use Rattle.std.proofs.Common.{◌≡◌, ◌+◌, ◌-◌, ◌≤◌, ◌++◌, Bool, ℕ, List, All, drop, length, map, true}
use Rattle.cf_review.specs.Follow.{IsPartOf, SoFar}
use Rattle.cf_review.specs.Remark.{RemarkValue, remark_value}
use Rattle.cf_review.specs.declared.remark.Remark.{Remark}
use Rattle.cf_watch.specs.FlowValue.{FlowValue}
use Rattle.cf_review.proofs.reviewing.read_units.Given as goal

abbrev pub invariant-units : goal.invariant-units
invariant-units l = record {
  past : l.fn.at ≤ l.at;
  inside : l.at ≤ length l.flow.bytes.items;
  so_far : (f : FlowValue) (start : List RemarkValue) (place : ℕ) → IsPartOf f place l.flow l.fn.at → SoFar l.site f start place l.fn.reader l.fn.admitted (map remark_value l.fn.remarks.items)
      → SoFar l.site f start (place + (l.at - l.fn.at)) l.reader l.admitted (map remark_value l.remarks.items);
  adds : (more : List Remark) × (l.remarks.items ≡ l.fn.remarks.items ++ more);
  told : (known : ℕ → Bool) → All (λ n. known n ≡ true) (drop l.fn.at l.flow.born) → All (λ r. known r.at_record ≡ true) (map remark_value l.fn.remarks.items)
      → All (λ r. known r.at_record ≡ true) (map remark_value l.remarks.items);
}

abbrev pub decreases-units : goal.decreases-units
decreases-units l = length l.bytes - l.at
