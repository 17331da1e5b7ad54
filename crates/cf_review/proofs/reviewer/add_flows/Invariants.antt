use Rattle.std.proofs.Common.{◌≡◌, ℕ, Bool, true, All, List, Some, map, slice_get, take}
use Rattle.cf_watch.specs.Trail.{Heard}
use Rattle.cf_watch.specs.declared.Flow.{Flow}
use Rattle.cf_review.specs.Follow.{AllTold}
use Rattle.cf_review.specs.Remark.{remark_value}
use Rattle.cf_review.specs.Review.{AreReviewed}
use Rattle.cf_review.specs.Reviewer.{AreFollowed}
use Rattle.cf_review.specs.declared.following.Following.{Following}
use Rattle.cf_review.proofs.reviewer.add_flows.Given as goal

abbrev pub invariant-loop-place : goal.invariant-loop-place
invariant-loop-place l = record {
  reviewed : (hs : List Heard) → AreFollowed l.policy.assets hs l.watch.flows.items l.followings.items →
      AreReviewed l.policy.assets (map (λ h. h.value) (take l.place hs)) l.admitted (map remark_value l.remarks.items);
  told : (known : ℕ → Bool) → ((i : ℕ) (f : Flow) (g : Following) → slice_get l.watch.flows.items i ≡ Some f → slice_get l.followings.items i ≡ Some g → AllTold known f g) →
      All (λ r. known r.at_record ≡ true) (map remark_value l.remarks.items);
}
