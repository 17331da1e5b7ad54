use Rattle.std.proofs.Common.{◌≡◌, ◌∙◌, ◌+◌, ◌<◌, ◌≤◌, ◌++◌, ◌∷◌, [], ℕ, List, true, length, refl, sym, ap, subst, inl, inr}
use Rattle.std.proofs.lemmas.Bool.{cases_Bool}
use Rattle.std.proofs.lemmas.List.{length-set}
use Rattle.std.proofs.lemmas.Option.{same_Some, slice_get_read}
use Rattle.std.specs.Vec.{with_item}
use Rattle.cf_records.specs.Capture.{Record}
use Rattle.cf_watch.specs.declared.Scope.TheVariants as scope
use Rattle.cf_review.specs.Reviewer.{HasTaken, IsDoneWith, IsReviewing}
use Rattle.cf_review.specs.Stamps.{AreStamps, has_stamp}
use Rattle.cf_review.specs.declared.following.Following.{Following}
use Rattle.cf_review.specs.declared.stamps.Stamp.{Stamp}
use Rattle.cf_review.proofs.ReadOn.{even}
use Rattle.cf_review.proofs.Taking.{begun_here, in_assets, in_flows, in_followings, in_trails, newest_past, ready, reviews_on, tail}
use Rattle.cf_review.proofs.reviewer.Reviewer.follow_at.Goals as goal
use Rattle.cf_review.proofs.reviewer.Reviewer.follow_at.Goals.{In_ok-keep_told}

pub site_at_place-site-requires : goal.site_at_place-site-requires
site_at_place-site-requires c =
    let (newest, taken) = c.requires.taken in
    let r = ready _ newest _ _ _ _ taken _ c.in_ok-add_missing.ensures in
    in_assets _ newest _ _ _ _ taken _ r c.flow-flow.result.now c.flow-flow.ensures

pub index-requires : goal.index-requires
index-requires c =
    let (newest, taken) = c.requires.taken in
    subst (λ n. c.args.place < n) (sym c.add_missing.new.followings.ok.0) (in_followings _ newest _ _ _ _ taken _ (ready _ newest _ _ _ _ taken _ c.in_ok-add_missing.ensures))

pub index_mut-requires : goal.index_mut-requires
index_mut-requires c =
    let (newest, taken) = c.requires.taken in
    subst (λ n. c.args.place < n) (sym c.add_missing.new.followings.ok.0) (in_followings _ newest _ _ _ _ taken _ (ready _ newest _ _ _ _ taken _ c.in_ok-add_missing.ensures))

pub follow-requires-clause-begun : goal.follow-requires-clause-begun
follow-requires-clause-begun c =
    let (newest, taken) = c.requires.taken in
    let r = ready _ newest _ _ _ _ taken _ c.in_ok-add_missing.ensures in
    let gs = c.add_missing.new.followings.items in
    let g = c.index_mut.result.now in
    let g_at = slice_get_read gs (length gs) c.args.place g refl (in_followings _ newest _ _ _ _ taken _ r) c.index_mut.ensures.value in
    let f_at = c.flow-flow.ensures in
    (r.h, tail _ newest _ _ _ _ taken _ r c.flow-flow.result.now f_at, begun_here _ newest _ _ _ _ taken _ r c.flow-flow.result.now f_at c.site_at_place-site.result c.site_at_place-site.ensures.site g g_at)

pub may_tell-is_told-requires-clause-flow : goal.may_tell-is_told-requires-clause-flow
may_tell-is_told-requires-clause-flow c =
    let (newest, taken) = c.requires.taken in
    in_flows _ newest _ _ _ _ taken _ (ready _ newest _ _ _ _ taken _ c.in_ok-add_missing.ensures)

pub may_tell-is_told-requires-clause-trail : goal.may_tell-is_told-requires-clause-trail
may_tell-is_told-requires-clause-trail c =
    let (newest, taken) = c.requires.taken in
    in_trails _ newest _ _ _ _ taken _ (ready _ newest _ _ _ _ taken _ c.in_ok-add_missing.ensures)

pub may_tell-is_told-requires-clause-following : goal.may_tell-is_told-requires-clause-following
may_tell-is_told-requires-clause-following c =
    let (newest, taken) = c.requires.taken in
    subst (λ n. c.args.place < n) (sym (length-set c.add_missing.new.followings.items c.args.place c.follow.new.self))
    (in_followings _ newest _ _ _ _ taken _ (ready _ newest _ _ _ _ taken _ c.in_ok-add_missing.ensures))

pub may_tell-is_told-requires-clause-born : goal.may_tell-is_told-requires-clause-born
may_tell-is_told-requires-clause-born c f at =
    let (newest, taken) = c.requires.taken in
    let r = ready _ newest _ _ _ _ taken _ c.in_ok-add_missing.ensures in
    even r.h f (tail _ newest _ _ _ _ taken _ r f at)

pub keep_told-requires-clause-newest : goal.keep_told-requires-clause-newest
keep_told-requires-clause-newest c =
    let (newest, taken) = c.requires.taken in
    newest_past _ newest _ _ _ _ taken

pub forget_read-requires-clause-following : goal.forget_read-requires-clause-following
forget_read-requires-clause-following c =
    let (newest, taken) = c.requires.taken in
    subst (λ n. c.args.place < n) (sym (length-set c.add_missing.new.followings.items c.args.place c.follow.new.self))
    (in_followings _ newest _ _ _ _ taken _ (ready _ newest _ _ _ _ taken _ c.in_ok-add_missing.ensures))

-- all that was taken is reviewed
module _ (c : In_ok-keep_told) (newest : List Record) (taken : HasTaken c.args.assets.now newest c.args.place c.args.number c.args.stamp c.args.self.now) where
  reviewed : IsReviewing scope.Recording c.args.assets.now newest (record { watch = c.args.self.now.watch; followings = with_item c.add_missing.new.followings c.args.place c.follow.new.self; stamps = c.keep_told.new.stamps; count = c.args.self.now.count })
  reviewed =
      let place = c.args.place in
      let r = ready _ newest _ _ _ _ taken _ c.in_ok-add_missing.ensures in
      let gs = c.add_missing.new.followings.items in
      let g = c.index_mut.result.now in
      let inside = in_followings _ newest _ _ _ _ taken _ r in
      let g_at = slice_get_read gs (length gs) place g refl inside c.index_mut.ensures.value in
      let same : c.index.result.now ≡ g = same_Some c.index.result.now g (sym (slice_get_read gs (length gs) place c.index.result.now refl inside c.index.ensures) ∙ g_at) in
      let count : c.len-before.result ≡ length g.remarks.items = c.len-before.ensures ∙ c.index.result.now.remarks.ok.0 ∙ ap (λ (x : Following). length x.remarks.items) same in
      reviews_on _ newest _ _ _ _ taken _ r c.flow-flow.result.now c.flow-flow.ensures c.site_at_place-site.result c.site_at_place-site.ensures.site g g_at c.follow.new.self
      (record { watch = c.args.self.now.watch; followings = with_item c.add_missing.new.followings place c.follow.new.self; stamps = c.args.self.now.stamps; count = c.args.self.now.count })
      _ c.in_ok-follow.ensures.begun c.in_ok-follow.ensures.at_rest c.in_ok-follow.ensures.adds c.in_ok-follow.ensures.told refl refl refl refl refl
      (elim (cases_Bool c.may_tell-is_told.result) [
        | inl told ↦ inl (c.in_ok-keep_told.ensures.has told)
        | inr done ↦ inr (subst (IsDoneWith _ place c.args.number) count (c.may_tell-is_told.ensures done))
      ])
      (subst (λ (s : List Stamp). (n : ℕ) → has_stamp s n ≡ true → has_stamp c.keep_told.new.stamps n ≡ true) taken.stamps c.in_ok-keep_told.ensures.others)
      (subst (λ (s : List Stamp). (stamps : List ℕ) → length stamps < c.args.number → c.args.number ≤ length stamps + 1 → AreStamps stamps s → AreStamps (stamps ++ c.args.stamp ∷ []) c.keep_told.new.stamps)
      taken.stamps c.in_ok-keep_told.ensures.stamps)

pub forget_read-requires-clause-reviewing : goal.forget_read-requires-clause-reviewing
forget_read-requires-clause-reviewing c =
    let (newest, taken) = c.requires.taken in
    (c.args.assets.now, newest, reviewed (goal.at.forget_read-requires-clause-reviewing c).In_ok-keep_told newest taken)

pub returns : goal.returns
returns c newest taken = c.forget_read.ensures c.args.assets.now newest (reviewed (goal.at.returns c).In_ok-keep_told newest taken)
