-- `review POLICY CAPTURE.. LOG`: all that a policy objects to in what clients sent in captures, which are one recording, a line each:
-- `HoldsReview`. What is watched is said in `cf_watch`, what is objected to in `cf_review`.
use Rattle.std.specs.Prelude.{◌≡◌, ◌≢◌, ℕ, List, [], ◌∷◌, map, Result, Ok, Err}
use Rattle.cf_outside.specs.Files.{IsPartly, content_after_write}
use Rattle.cf_outside.specs.Frames.{KeepsOtherFiles}
use Rattle.cf_policy.specs.declared.Policy.{Policy}
use Rattle.cf_review.specs.Counted.{counts_of}
use Rattle.cf_review.specs.Lines.{review_text}
use Rattle.cf_review.specs.Remark.{RemarkValue, remark_value}
use Rattle.cf_review.specs.Review.{IsReviewOf}
use Rattle.cf_review.specs.declared.Counts.{Counts}
use Rattle.cf_review.specs.declared.Reviewed.{Reviewed}
use Rattle.cf_watch.specs.FlowValue.{FlowValue, StretchValue}
use Rattle.cf_watch.specs.Recorded.{HasRecording}
use Rattle.cf_box.specs.Check.{ChangesNothing}
use Rattle.cf_ending.specs.Outside.{Outside}
use Rattle.cf_box.specs.PolicyFile.{HasPolicy}
use Rattle.cf_ending.specs.declared.Denial.{Denial}
use Rattle.cf_ending.specs.declared.Denial.TheVariants as denial
use Rattle.cf_ending.specs.declared.Done.{Done}
use Rattle.cf_ending.specs.declared.Done.TheVariants as done
use Rattle.cf_ending.specs.declared.Stop.{Stop}
use Rattle.cf_ending.specs.declared.Stop.TheVariants as stop

-- ---- of a policy and captures

-- the remarks of a review that was made
abbrev pub remarks_of : Reviewed → List RemarkValue
remarks_of r = map remark_value r.remarks.items

-- the answer about a review whose lines were written: there is no remark, or there is one
abbrev pub AnswersBy : Reviewed → Result Done Stop → Type 0
AnswersBy r (Ok (done.Reviewed counts)) = (counts ≡ counts_of r) × (remarks_of r ≡ [])
AnswersBy r (Err (stop.Denied (denial.Remarks counts))) = (counts ≡ counts_of r) × (remarks_of r ≢ [])
AnswersBy r _ = ⊥

module _ (policy : List ℕ) (captures : List (List ℕ)) (before : Outside) where
  -- the policy of a file means this, these are the stamps of the records of the captures, and this is the review of their flows
  pub record HasReview (p : Policy) (stamps : List ℕ) (r : Reviewed) : Type 0 where
    pub has_policy : HasPolicy (before.files.content policy) p
    pub flows : List FlowValue
    pub stretches : List StretchValue
    pub recorded : HasRecording p.assets before.files.content captures flows stretches stamps
    pub reviews : IsReviewOf p.assets flows stretches r

  -- there is a remark, and so much was counted
  abbrev pub Remarks : Denial → Type 0
  Remarks (denial.Remarks counts) = (p : Policy) × (stamps : List ℕ) × (r : Reviewed) × HasReview p stamps r × (counts ≡ counts_of r)
      × (remarks_of r ≢ [])
  Remarks _ = ⊥

  -- whatever is told of them, there is none
  abbrev pub NeverRemarks : Type 0
  NeverRemarks = (why : Denial) → Remarks why → ⊥

  -- there is none
  abbrev pub NothingRemarked : Type 0
  NothingRemarked = (p : Policy) × (stamps : List ℕ) × (r : Reviewed) × HasReview p stamps r × (remarks_of r ≡ [])

module _ (policy : List ℕ) (captures : List (List ℕ)) (log : List ℕ) (before after : Outside) where
  -- the one file was created and holds the line of each remark of the review, and nothing else
  pub record HoldsReview : Type 0 where
    pub known : Policy
    pub stamps : List ℕ
    pub reviewed : Reviewed
    pub has : HasReview policy captures before known stamps reviewed
    pub in_file : after.files.content log ≡ content_after_write (before.files.content log)
        (review_text known.assets stamps (remarks_of reviewed))

  -- so it was, its remarks were counted, and no other file changed
  pub record WritesReview (counts : Counts) : Type 0 where
    pub holds : HoldsReview
    pub counted : counts ≡ counts_of holds.reviewed
    pub others : KeepsOtherFiles (log ∷ []) before.files.content after.files.content
    pub sink : after.sink ≡ before.sink
    pub pair : after.pair ≡ before.pair

  -- and there is none
  abbrev pub DoesReview : Done → Type 0
  DoesReview (done.Reviewed counts) = (w : WritesReview counts) × (remarks_of w.holds.reviewed ≡ [])
  DoesReview _ = ⊥

  -- a write failed: the file is as it was, or has a beginning of the lines
  pub record ReviewsInPart : Type 0 where
    pub known : Policy
    pub stamps : List ℕ
    pub reviewed : Reviewed
    pub has : HasReview policy captures before known stamps reviewed
    pub part : IsPartly (review_text known.assets stamps (remarks_of reviewed)) (before.files.content log) (after.files.content log)
    pub others : KeepsOtherFiles (log ∷ []) before.files.content after.files.content
    pub sink : after.sink ≡ before.sink
    pub pair : after.pair ≡ before.pair

  -- a review that has a remark was written; whatever else stops it changes nothing
  abbrev pub ReviewLeaves : Stop → Type 0
  ReviewLeaves (stop.Denied (denial.Remarks counts)) = (w : WritesReview counts) × (remarks_of w.holds.reviewed ≢ [])
  ReviewLeaves stop.WriteFault = ReviewsInPart
  ReviewLeaves _ = ChangesNothing before after

  -- what stands where the work was done, or something is remarked: the lines of all remarks, which are none or some
  pub record ReviewHolds (status : ℕ) : Type 0 where
    pub holds : HoldsReview
    pub clean : status ≡ 0 → remarks_of holds.reviewed ≡ []
    pub remarked : status ≡ 15 → remarks_of holds.reviewed ≢ []
