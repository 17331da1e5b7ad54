-- The answers of the reading of a recording, of its review and of its writing, as the answer of the command.
use Rattle.std.proofs.Common.{◌≡◌, ℕ, List, [], ◌∷◌, Result, Ok, Err, reverse, refl, ap, subst, ◌∙◌, inl, inr}
use Rattle.cf_outside.specs.Faults.{Rose}
use Rattle.std.proofs.lemmas.List.{reverse-reverse}
use Rattle.cf_outside.specs.Files.{Content, IsPartly, content_after_write}
use Rattle.cf_outside.specs.Frames.{KeepsOtherFiles}
use Rattle.cf_policy.specs.declared.Asset.{Asset}
use Rattle.cf_policy.specs.declared.Policy.{Policy}
use Rattle.cf_records.specs.Capture.{Record}
use Rattle.cf_review.specs.Counted.{counts_of}
use Rattle.cf_review.specs.Lines.{review_text}
use Rattle.cf_review.specs.Review.{IsReviewOf}
use Rattle.cf_review.specs.Reviewer.{IsReviewed}
use Rattle.cf_review.specs.declared.Counts.{Counts}
use Rattle.cf_review.specs.declared.Reviewed.{Reviewed}
use Rattle.cf_review.specs.declared.stamps.Stamp.{Stamp}
use Rattle.cf_watch.specs.FlowValue.{FlowValue, StretchValue}
use Rattle.cf_watch.specs.Recorded.{HasRecording, HaveRecords}
use Rattle.cf_words.specs.Command.{Review}
use Rattle.cf_box.specs.Ends.{Meets, PassesPolicy}
use Rattle.cf_ending.specs.Outside.{Outside, ReadsOnly}
use Rattle.cf_box.specs.PolicyFile.{HasPolicy}
use Rattle.cf_box.specs.Recording.{CapturesCut, CapturesRefuse, StopsReading}
use Rattle.cf_box.specs.Review.{AnswersBy, HasReview, WritesReview, remarks_of}
use Rattle.cf_ending.specs.declared.Denial.TheVariants as denial
use Rattle.cf_ending.specs.declared.Done.{Done}
use Rattle.cf_ending.specs.declared.Done.TheVariants as done
use Rattle.cf_ending.specs.declared.Stop.{Stop}
use Rattle.cf_ending.specs.declared.Stop.TheVariants as stop
use Rattle.cf_box.proofs.OneRecording.{rose_since}
use Rattle.cf_box.proofs.Passing.{policy_passes}

-- the records, the oldest first
pub reviewed_records : {r : Reviewed} {s : List Stamp} (assets : List Asset) (records : List Record) → IsReviewed assets (reverse (reverse records)) r s → IsReviewed assets records r s
reviewed_records {r} {s} assets records is = subst (λ rs. IsReviewed assets rs r s) (reverse-reverse records) is

-- they are those of captures
pub recording_of : {r : Reviewed} {s : List Stamp} (assets : List Asset) (content : List ℕ → Content) (captures : List (List ℕ)) →
    (h : (records : List Record) × HaveRecords content captures records × IsReviewed assets records r s) → HasRecording assets content captures h.2.flows h.2.stretches h.2.stamps
recording_of assets content captures h = record { records = h.0; have = h.1; shows = h.2.shows }

module _ (policy : List ℕ) (captures : List (List ℕ)) (log : List ℕ) (before : Outside) (p : Policy) (has : HasPolicy (before.files.content policy) p) where
  passes : PassesPolicy (Review policy captures log) before
  passes = policy_passes (Review policy captures log) before policy p refl refl refl has

  -- the captures were not read to their ends
  pub unread_meets : (middle after : Outside) → ReadsOnly (policy ∷ []) before.files middle.files → ReadsOnly captures middle.files after.files → after.sink ≡ before.sink →
      after.pair ≡ before.pair → (s : Stop) → StopsReading captures middle.files after.files s → Meets (Review policy captures log) before after (Err s)
  unread_meets middle after only reads sink pair stop.ReadFault c =
      (inr (rose_since captures before.files.read_faults middle.files.read_faults after.files.read_faults only.reads.later c), record { content = reads.content ∙ only.content; sink = sink; pair = pair })
  unread_meets middle after only reads sink pair (stop.CaptureRefused r) c =
      ((subst (λ f. CapturesRefuse f captures r) only.content c, passes), record { content = reads.content ∙ only.content; sink = sink; pair = pair })
  unread_meets middle after only reads sink pair (stop.CaptureCut place) c =
      ((subst (λ f. CapturesCut f captures place) only.content c, passes), record { content = reads.content ∙ only.content; sink = sink; pair = pair })
  unread_meets middle after only reads sink pair stop.NoMemory c = (tt, record { content = reads.content ∙ only.content; sink = sink; pair = pair })
  unread_meets middle after only reads sink pair s c = absurd c

  module _ (middle after : Outside) (stamps : List ℕ) (r : Reviewed) (flows : List FlowValue) (stretches : List StretchValue)
      (recorded : HasRecording p.assets middle.files.content captures flows stretches stamps) (is : IsReviewOf p.assets flows stretches r) (only : ReadsOnly (policy ∷ captures) before.files middle.files) (sink : after.sink ≡ before.sink) (pair : after.pair ≡ before.pair) where
    has_review : HasReview policy captures before p stamps r
    has_review = record {
      has_policy = has;
      flows = flows;
      stretches = stretches;
      recorded = subst (λ f. HasRecording p.assets f captures flows stretches stamps) only.content recorded;
      reviews = is;
    }

    module _ (others : KeepsOtherFiles (log ∷ []) middle.files.content after.files.content) where
      kept : KeepsOtherFiles (log ∷ []) before.files.content after.files.content
      kept = λ other none. others other none ∙ ap (λ f. f other) only.content

      -- it was written
      writes : (counts : Counts) → counts ≡ counts_of r → after.files.content log ≡ content_after_write (middle.files.content log) (review_text p.assets stamps (remarks_of r)) →
          WritesReview policy captures log before after counts
      writes counts counted file = record {
        holds = record {
          known = p;
          stamps = stamps;
          reviewed = r;
          has = has_review;
          in_file = file ∙ ap (λ f. content_after_write (f log) (review_text p.assets stamps (remarks_of r))) only.content;
        };
        counted = counted;
        others = kept;
        sink = sink;
        pair = pair;
      }

      pub answered_meets : after.files.content log ≡ content_after_write (middle.files.content log) (review_text p.assets stamps (remarks_of r)) → (answer : Result Done Stop) → AnswersBy r answer →
          Meets (Review policy captures log) before after answer
      unfolding writes
      answered_meets file (Ok (done.Reviewed counts)) a = (writes counts a.0 file, a.1)
      answered_meets file (Err (stop.Denied (denial.Remarks counts))) a = (((p, stamps, r, has_review, a.0, a.1), passes), (writes counts a.0 file, a.1))
      answered_meets file _ a = absurd a

      -- or a write failed
      pub failed_meets : Rose middle.files.write_faults after.files.write_faults →
          IsPartly (review_text p.assets stamps (remarks_of r)) (middle.files.content log) (after.files.content log) → Meets (Review policy captures log) before after (Err stop.WriteFault)
      failed_meets rose part = (
        (inl (subst (λ n. Rose n after.files.write_faults) only.writes rose), passes),
        record {
          known = p;
          stamps = stamps;
          reviewed = r;
          has = has_review;
          part = subst (λ f. IsPartly (review_text p.assets stamps (remarks_of r)) (f log) (after.files.content log)) only.content part;
          others = kept;
          sink = sink;
          pair = pair;
        },
      )
