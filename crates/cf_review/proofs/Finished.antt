-- What a reviewer has heard, followed to the end.
use Rattle.std.proofs.Common.{◌≡◌, ◌*◌, ◌+◌, ◌<◌, ◌≤◌, ◌^◌, ◌∙◌, ℕ, List, ◌++◌, length, map, drop, reverse, slice_get, Some, refl, sym, ap, subst, arith, inl, inr, length-append}
use Rattle.std.proofs.Math.Seq.{drop-append_seam}
use Rattle.std.proofs.lemmas.List.{reverse-reverse}
use Rattle.std.proofs.lemmas.Option.{slice_get_cases, slice_get_within}
use Rattle.cf_policy.specs.declared.Asset.{Asset}
use Rattle.cf_records.specs.Capture.{Record}
use Rattle.cf_watch.proofs.AllKept.{are_flows}
use Rattle.cf_watch.proofs.ForAssets.{are_for_seen}
use Rattle.cf_watch.proofs.StretchFlows.{stretches_are_for}
use Rattle.cf_watch.specs.Flow.{AreFlowsOf}
use Rattle.cf_watch.specs.FlowValue.{AreStretchesFor, FlowValue, StretchValue}
use Rattle.cf_watch.specs.Recorded.{IsRecordingOf}
use Rattle.cf_watch.specs.Seen.{seen_by}
use Rattle.cf_watch.specs.Stretches.{all_stretches}
use Rattle.cf_watch.specs.Trail.{Heard, IsHeard, IsWatchOf, MayBeGone}
use Rattle.cf_watch.specs.Watched.{Watched}
use Rattle.cf_watch.specs.declared.flow.Flow.{Flow}
use Rattle.cf_watch.specs.declared.scope.Scope.{Scope}
use Rattle.cf_watch.specs.declared.scope.Scope.TheVariants as scope
use Rattle.cf_watch.specs.declared.watching.Trail.{Trail}
use Rattle.cf_watch.specs.declared.watching.Watch.{Watch}
use Rattle.cf_review.proofs.Apart.{stretches_told}
use Rattle.cf_review.specs.Follow.{AreToldOf, IsTail}
use Rattle.cf_review.specs.Reviewer.{AreFollowed, IsReviewing}
use Rattle.cf_review.specs.Stamps.{has_stamp}
use Rattle.cf_review.specs.declared.reviewer.Reviewer.{Reviewer}

-- ---- what a watch keeps

-- the bytes that are kept of a flow that was heard
tail_of : (by : Scope) (f : Flow) (t : Trail) (w : Watched) (h : Heard) → IsHeard by f t w h → IsTail h f
tail_of by f t w h is =
    let bytes : h.value.bytes ≡ is.gone ++ f.bytes.items = ap (λ (v : FlowValue). v.bytes) is.value in
    let born : h.value.born ≡ is.gone_born ++ f.born = ap (λ (v : FlowValue). v.born) is.value in
    let size : length (is.gone ++ f.bytes.items) ≡ length is.gone + length f.bytes.items = length-append is.gone f.bytes.items in
    record {
      bytes = sym (drop-append_seam is.gone f.bytes.items) ∙ ap (λ n. drop n (is.gone ++ f.bytes.items)) is.gone_count ∙ ap (drop h.base) (sym bytes);
      born = sym (drop-append_seam is.gone_born f.born) ∙ ap (λ n. drop n (is.gone_born ++ f.born)) is.born_count ∙ ap (drop h.base) (sym born);
      inside = omega (arith, ap length bytes, size, is.gone_count);
      sizes = is.flow.born.count;
      client = sym (ap (λ (v : FlowValue). v.client) is.value);
      asset = sym (ap (λ (v : FlowValue). v.asset) is.value);
      midstream = sym (ap (λ (v : FlowValue). v.midstream) is.value);
      conflict = sym (ap (λ (v : FlowValue). v.conflict) is.value);
    }

-- no more bytes are kept no more than the newest position is
low_base : (by : Scope) (base top records : ℕ) → MayBeGone by base top → top ≤ records * 2 ^ 32 → records ≤ 2 ^ 27 → base ≤ 2 ^ 62
low_base by base top records (inl none) low few = omega (arith, none)
low_base by base top records (inr gone) low few = omega (arith, gone.1, low, few)

-- there is one at a place inside
there : {X : Type 0} (xs : List X) (i : ℕ) → i < length xs → (x : X) × (slice_get xs i ≡ Some x)
there xs i inside =
    elim (slice_get_cases xs i).1 [
      | inl here ↦ (here.0, here.2)
      | inr past ↦ absurd (omega (arith, inside, past.0))
    ]

-- a flow of a watch was heard with its trail
module _ (by : Scope) (records : ℕ) (watch : Watch) (ws : List Watched) (hs : List Heard) (is : IsWatchOf by records watch ws hs) where
  pub tail_at : (i : ℕ) (h : Heard) (f : Flow) → slice_get hs i ≡ Some h → slice_get watch.flows.items i ≡ Some f → IsTail h f
  tail_at i h f at in_flows =
      let inside = slice_get_within hs i h at in
      let t = there watch.trails.items i (omega (arith, inside, is.trail_count, is.heard_count)) in
      let w = there ws i (omega (arith, inside, is.heard_count)) in
      tail_of by f t.0 w.0 h (is.each i f t.0 w.0 h in_flows t.1 w.1 at)

  pub base_at : records ≤ 2 ^ 27 → (i : ℕ) (t : Trail) → slice_get watch.trails.items i ≡ Some t → t.base ≤ 2 ^ 62
  base_at few i t at =
      let inside = slice_get_within watch.trails.items i t at in
      let f = there watch.flows.items i (omega (arith, inside, is.trail_count, is.flow_count)) in
      let w = there ws i (omega (arith, inside, is.trail_count)) in
      let h = there hs i (omega (arith, inside, is.trail_count, is.heard_count)) in
      low_base by t.base t.top records (is.each i f.0 t w.0 h.0 f.1 at w.1 h.1).may_be_gone (is.low i t at) few

-- ---- what a reviewer keeps

module _ (assets : List Asset) (newest : List Record) (r : Reviewer) (is : IsReviewing scope.Recording assets newest r) where
  abbrev pub values : List FlowValue
  values = map (λ h. h.value) is.heard

  abbrev pub seen : List Watched
  seen = seen_by scope.Recording assets newest

  pub followed_all : AreFollowed assets is.heard r.watch.flows.items r.followings.items
  followed_all = record {
    flow_count = is.watches.flow_count ∙ sym is.watches.heard_count;
    following_count = is.followed_count;
    tails = tail_at scope.Recording r.count r.watch seen is.heard is.watches;
    inside = is.inside;
    followed = is.followed;
  }

  pub bases_low : (i : ℕ) (t : Trail) → slice_get r.watch.trails.items i ≡ Some t → t.base ≤ 2 ^ 62
  bases_low = base_at scope.Recording r.count r.watch seen is.heard is.watches is.few

  pub same_counts : length r.watch.flows.items ≡ length r.watch.trails.items
  same_counts = is.watches.flow_count ∙ sym is.watches.trail_count

  flows_now : AreFlowsOf seen values
  flows_now = are_flows scope.Recording r.count r.watch seen is.heard is.watches

  module _ (stretches : List StretchValue) (others : stretches ≡ all_stretches seen values) where
    pub is_recording : IsRecordingOf assets (reverse newest) values stretches (map (λ (x : Record). x.stamp) (reverse newest))
    is_recording = record {
      are_flows = subst (λ rs. AreFlowsOf (seen_by scope.Recording assets rs) values) (sym (reverse-reverse newest)) flows_now;
      are_stretches = subst (λ rs. stretches ≡ all_stretches (seen_by scope.Recording assets rs) values) (sym (reverse-reverse newest)) others;
      are_stamps = refl;
    }

    pub stretches_for : AreStretchesFor assets stretches
    stretches_for = subst (AreStretchesFor assets) (sym others) (stretches_are_for assets seen values (are_for_seen scope.Recording assets newest values flows_now))

    pub stretches_known : AreToldOf (has_stamp r.stamps) stretches
    stretches_known = subst (AreToldOf (has_stamp r.stamps)) (sym others) (stretches_told (has_stamp r.stamps) seen is.heard is.apart)
