use Rattle.std.proofs.Common.{◌≡◌, ◌≤◌, count_by, map, take}
use Rattle.cf_review.specs.Counted.{is_kind}
use Rattle.cf_review.specs.Remark.{remark_value}
use Rattle.cf_review.proofs.counting.count_kind.Given as goal

abbrev pub invariant-loop-remark : goal.invariant-loop-remark
invariant-loop-remark l = record {
  counted : l.count ≡ count_by (λ r. is_kind l.kind r.what) (map remark_value (take l.remark-index l.remarks));
  few : l.count ≤ l.remark-index;
}
