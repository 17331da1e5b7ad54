use Rattle.std.proofs.Common.{◌≡◌, Bool, ℕ, All, map, take, true}
use Rattle.cf_review.specs.Follow.{AreToldOf}
use Rattle.cf_review.specs.Remark.{remark_value}
use Rattle.cf_review.specs.Review.{AddsStretches}
use Rattle.cf_watch.specs.FlowValue.{stretch_value}
use Rattle.cf_review.proofs.reviewing.review_stretches.Given as goal

-- the first stretches are reviewed
abbrev pub invariant-loop-stretch : goal.invariant-loop-stretch
invariant-loop-stretch l = record {
  adds : AddsStretches l.policy.assets (map stretch_value (take l.stretch-index l.stretches)) l.before (map remark_value l.fn.remarks.items) (map remark_value l.remarks.items) l.admitted;
  told : (known : ℕ → Bool) → AreToldOf known (map stretch_value l.stretches) → All (λ r. known r.at_record ≡ true) (map remark_value l.fn.remarks.items)
      → All (λ r. known r.at_record ≡ true) (map remark_value l.remarks.items);
}
