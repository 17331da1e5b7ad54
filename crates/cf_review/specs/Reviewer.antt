-- Steps of the proof: what a reviewer keeps of the records that it took: IsReviewing; and what it answers: IsReviewed.
use Rattle.std.specs.Prelude.{◌≡◌, ◌≢◌, ◌+◌, ◌<◌, ◌≤◌, ◌^◌, ◌⊎◌, ℕ, Bool, true, List, [], ◌∷◌, ◌++◌, length, map, reverse, slice_get, Some, false}
use Rattle.cf_policy.specs.Site.{SiteValue, site_from}
use Rattle.cf_policy.specs.Within.{AreAssetsWithin}
use Rattle.cf_policy.specs.declared.Asset.{Asset}
use Rattle.cf_records.specs.Capture.{Record}
use Rattle.cf_watch.specs.FlowValue.{FlowValue, StretchValue}
use Rattle.cf_watch.specs.Recorded.{IsRecordingOf}
use Rattle.cf_watch.specs.Seen.{seen_by}
use Rattle.cf_watch.specs.Stretches.{FirstLetter, first_letter, is_own}
use Rattle.cf_watch.specs.Trail.{Heard, IsSettled, IsWatchOf, TakesRecord}
use Rattle.cf_watch.specs.declared.Conflict.{Conflict}
use Rattle.cf_watch.specs.Watched.{Watched}
use Rattle.cf_watch.specs.declared.Flow.{Flow}
use Rattle.cf_watch.specs.declared.Scope.{Scope}
use Rattle.cf_watch.specs.declared.Scope.TheVariants as scope
use Rattle.cf_review.specs.Follow.{AllTold, IsBegun, IsFollowed, IsTail, unread}
use Rattle.cf_review.specs.Review.{IsReviewOf}
use Rattle.cf_review.specs.Stamps.{AreStamps, has_stamp}
use Rattle.cf_review.specs.declared.following.Following.{Following}
use Rattle.cf_review.specs.declared.following.Stage.TheVariants as stage
use Rattle.cf_review.specs.declared.reviewer.Reviewer.{Reviewer}
use Rattle.cf_review.specs.declared.reviewing.Reviewed.{Reviewed}
use Rattle.cf_review.specs.declared.stamps.Stamp.{Stamp}

-- the letters of a flow that stand apart from its bytes came with records of which this holds
abbrev pub ApartAre : (known : ℕ → Bool) → Watched → Heard → Type 0
ApartAre known w h =
    (q : ℕ) (l : FirstLetter) → is_own (length h.value.bytes) q ≡ false → first_letter w.carried q ≡ Some l → known l.number ≡ true

-- it took these records of a recording, the newest first
pub record IsReviewing (by : Scope) (assets : List Asset) (newest : List Record) (r : Reviewer) : Type 0 where
  pub recording : by ≡ scope.Recording
  pub within : AreAssetsWithin assets
  pub count : length newest ≡ r.count
  pub few : r.count ≤ 2 ^ 27
  pub heard : List Heard
  pub watches : IsWatchOf scope.Recording r.count r.watch (seen_by scope.Recording assets newest) heard
  pub inside : (i : ℕ) (h : Heard) → slice_get heard i ≡ Some h → h.value.asset < length assets
  pub followed_count : length r.followings.items ≡ length heard
  pub followed : (i : ℕ) (h : Heard) (g : Following) → slice_get heard i ≡ Some h → slice_get r.followings.items i ≡ Some g
      → IsFollowed (site_from assets h.value.asset) h g
  pub stamps : AreStamps (map (λ x. x.stamp) (reverse newest)) r.stamps
  pub told : (i : ℕ) (f : Flow) (g : Following) → slice_get r.watch.flows.items i ≡ Some f → slice_get r.followings.items i ≡ Some g
      → AllTold (has_stamp r.stamps) f g
  pub apart : (i : ℕ) (w : Watched) (h : Heard) → slice_get (seen_by scope.Recording assets newest) i ≡ Some w → slice_get heard i ≡ Some h
      → ApartAre (has_stamp r.stamps) w h

-- these are the remarks on the flows of records, the oldest of which stands first, and the stamps of the records that they are of
pub record IsReviewed (assets : List Asset) (records : List Record) (r : Reviewed) (s : List Stamp) : Type 0 where
  pub flows : List FlowValue
  pub stretches : List StretchValue
  pub stamps : List ℕ
  pub shows : IsRecordingOf assets records flows stretches stamps
  pub reviews : IsReviewOf assets flows stretches r
  pub are_stamps : AreStamps stamps s

-- ---- on the way

-- the flows that are kept are those that were heard, and each was read as far as it goes
pub record AreFollowed (assets : List Asset) (hs : List Heard) (flows : List Flow) (followings : List Following) : Type 0 where
  pub flow_count : length flows ≡ length hs
  pub following_count : length followings ≡ length hs
  pub tails : (i : ℕ) (h : Heard) (f : Flow) → slice_get hs i ≡ Some h → slice_get flows i ≡ Some f → IsTail h f
  pub inside : (i : ℕ) (h : Heard) → slice_get hs i ≡ Some h → h.value.asset < length assets
  pub followed : (i : ℕ) (h : Heard) (g : Following) → slice_get hs i ≡ Some h → slice_get followings i ≡ Some g
      → IsFollowed (site_from assets h.value.asset) h g

-- a record of this number was taken, which was of the flow at this place, and the flow is not read on yet
pub record HasTaken (assets : List Asset) (newest : List Record) (place number stamp : ℕ) (r : Reviewer) : Type 0 where
  pub one : Record
  pub earlier : List Record
  pub are : newest ≡ one ∷ earlier
  pub stamped : one.stamp ≡ stamp
  pub numbered : number ≡ length earlier + 1
  pub few : number ≤ 2 ^ 27
  pub old : Reviewer
  pub was : IsReviewing scope.Recording assets earlier old
  pub count : r.count ≡ number
  pub takes : TakesRecord scope.Recording number (Some place) r.watch (seen_by scope.Recording assets earlier)
      (seen_by scope.Recording assets newest) was.heard
  pub followings : r.followings ≡ old.followings
  pub stamps : r.stamps ≡ old.stamps

-- of a flow of which nothing was read
pub record IsUnread (g : Following) : Type 0 where
  pub begun : (site : SiteValue) (h : Heard) → h.base ≡ 0 → IsBegun site h g
  pub stage : g.stage ≡ stage.Waits
  pub remarks : g.remarks.items ≡ []

-- where a place is the next one, one is put there of which nothing was read
abbrev pub AddsMissing : (place : ℕ) → (old new : List Following) → Type 0
AddsMissing place old new =
    ((place ≢ length old) × (new ≡ old)) ⊎ ((place ≡ length old) × ((g : Following) × IsUnread g × (new ≡ old ++ g ∷ [])))

-- no remark can be of a record of this number any more but those that are there
pub record IsQuiet (f : Flow) (g : Following) (number : ℕ) : Type 0 where
  pub read : unread g.stage g.at f ≡ []
  pub midstream : f.midstream ≢ Some number
  pub conflict : (c : Conflict) → f.conflict ≡ Some c → c.at_record ≢ number

-- no remark is, or may yet be, of a record of this number: the remarks on the flow at a place are no more than before, and all was read
pub record IsDoneWith (r : Reviewer) (place number before : ℕ) : Type 0 where
  pub none : (g : Following) → slice_get r.followings.items place ≡ Some g → length g.remarks.items ≤ before
  pub quiet : (f : Flow) (g : Following) → slice_get r.watch.flows.items place ≡ Some f → slice_get r.followings.items place ≡ Some g
      → IsQuiet f g number
  pub settled : IsSettled r.watch place
