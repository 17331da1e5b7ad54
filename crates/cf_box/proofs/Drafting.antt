-- The answers of the reading of a recording, of what is drafted by it and of its writing, as the answer of the command.
use Rattle.std.proofs.Common.{◌≡◌, ℕ, List, [], ◌∷◌, Result, Ok, Err, refl, ap, subst, ◌∙◌, inl, inr}
use Rattle.std.specs.Prelude.{string_bytes}
use Rattle.cf_draft.specs.declared.Draft.{Draft}
use Rattle.cf_outside.specs.Faults.{Rose}
use Rattle.cf_outside.specs.Files.{IsPartly, content_after_write}
use Rattle.cf_outside.specs.Frames.{KeepsOtherFiles}
use Rattle.cf_policy.specs.declared.Policy.{Policy}
use Rattle.cf_watch.specs.FlowValue.{FlowValue}
use Rattle.cf_words.specs.Command.{Draft as DraftCommand}
use Rattle.cf_box.specs.Check.{ChangesNothing}
use Rattle.cf_box.specs.Draft.{Drafts, DraftsAs, HasRead, IsDraftOf, IsReadOf, WritesDraftText}
use Rattle.cf_box.specs.Ends.{Meets, PassesPolicy}
use Rattle.cf_box.specs.PolicyFile.{HasPolicy}
use Rattle.cf_box.specs.Recording.{CapturesCut, CapturesRefuse, StopsReading}
use Rattle.cf_ending.specs.Outside.{Outside, ReadsOnly}
use Rattle.cf_ending.specs.declared.Done.{Done}
use Rattle.cf_ending.specs.declared.Stop.{Stop}
use Rattle.cf_ending.specs.declared.Stop.TheVariants as stop
use Rattle.cf_box.proofs.OneRecording.{rose_since}
use Rattle.cf_box.proofs.Passing.{policy_passes}

-- ---- the answer of the command

module _ (policy out : List ℕ) (captures : List (List ℕ)) (before : Outside) (p : Policy) (has : HasPolicy (before.files.content policy) p) where
  passes : PassesPolicy (DraftCommand policy out captures) before
  passes = policy_passes (DraftCommand policy out captures) before policy p refl refl refl has

  -- the captures were not read to their ends
  pub unread_meets : (middle after : Outside) → ReadsOnly (policy ∷ []) before.files middle.files → ReadsOnly captures middle.files after.files → after.sink ≡ before.sink →
      after.pair ≡ before.pair → (s : Stop) → StopsReading captures middle.files after.files s → Meets (DraftCommand policy out captures) before after (Err s)
  unread_meets middle after only reads sink pair stop.ReadFault c =
      (inr (rose_since captures before.files.read_faults middle.files.read_faults after.files.read_faults only.reads.later c), record { content = reads.content ∙ only.content; sink = sink; pair = pair })
  unread_meets middle after only reads sink pair (stop.CaptureRefused r) c =
      ((subst (λ f. CapturesRefuse f captures r) only.content c, passes), record { content = reads.content ∙ only.content; sink = sink; pair = pair })
  unread_meets middle after only reads sink pair (stop.CaptureCut place) c =
      ((subst (λ f. CapturesCut f captures place) only.content c, passes), record { content = reads.content ∙ only.content; sink = sink; pair = pair })
  unread_meets middle after only reads sink pair stop.NoMemory c = (tt, record { content = reads.content ∙ only.content; sink = sink; pair = pair })
  unread_meets middle after only reads sink pair s c = absurd c

  -- they were
  pub has_read : (middle : Outside) (read : List FlowValue) → ReadsOnly (policy ∷ []) before.files middle.files → IsReadOf p.assets middle.files.content captures read →
      HasRead policy captures before p read
  has_read middle read only is = record { has_policy = has; is_read = subst (λ f. IsReadOf p.assets f captures read) only.content is }

  module _ (read : List FlowValue) (recorded : HasRead policy captures before p read) where
    -- nothing was drafted
    pub undrafted_meets : (after : Outside) → ChangesNothing before after → (s : Stop) → DraftsAs p read (Err s) → Meets (DraftCommand policy out captures) before after (Err s)
    undrafted_meets after same (stop.TooManyRules name) l = (((p, read, recorded, l), passes), same)
    undrafted_meets after same stop.NoMemory l = (tt, same)
    undrafted_meets after same s l = absurd l

    module _ (middle after : Outside) (draft : Draft) (is : IsDraftOf p read draft) (only : ReadsOnly (policy ∷ captures) before.files middle.files)
        (others : KeepsOtherFiles (out ∷ []) middle.files.content after.files.content) (sink : after.sink ≡ before.sink) (pair : after.pair ≡ before.pair) where
      drafts : Drafts policy captures before draft
      drafts = record { known = p; read = read; has_read = recorded; is_draft = is }

      -- it was written with this answer
      pub draft_meets : (r : Result Done Stop) → WritesDraftText draft (middle.files.content out) (after.files.content out) r →
          (r ≡ Err stop.WriteFault → Rose middle.files.write_faults after.files.write_faults) → Meets (DraftCommand policy out captures) before after r
      draft_meets (Ok d) w rose = record {
        holds = record { draft = draft; drafts = drafts; in_file = w.1 ∙ ap (λ f. content_after_write (f out) (string_bytes draft.text)) only.content };
        counts = w.0;
        others = λ other none. others other none ∙ ap (λ f. f other) only.content;
        sink = sink;
        pair = pair;
      }
      draft_meets (Err stop.WriteFault) w rose = (
        (inl (subst (λ n. Rose n after.files.write_faults) only.writes (rose refl)), passes),
        record {
          draft = draft;
          drafts = drafts;
          part = subst (λ f. IsPartly (string_bytes draft.text) (f out) (after.files.content out)) only.content w;
          others = λ other none. others other none ∙ ap (λ f. f other) only.content;
          sink = sink;
          pair = pair;
        },
      )
      draft_meets (Err s) w rose = absurd w
