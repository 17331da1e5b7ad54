-- The answer of the writing of a policy, as the answer of the command.
use Rattle.std.proofs.Common.{◌≡◌, ℕ, List, [], ◌∷◌, Result, Ok, Err, refl, ap, subst, ◌∙◌, inl}
use Rattle.cf_outside.specs.Faults.{Rose}
use Rattle.cf_outside.specs.Files.{IsPartly, content_after_write}
use Rattle.cf_outside.specs.Frames.{KeepsOtherFiles}
use Rattle.cf_policy.specs.declared.Policy.{Policy}
use Rattle.cf_words.specs.Command.{Migrate}
use Rattle.cf_box.specs.Ends.{Meets, PassesPolicy}
use Rattle.cf_ending.specs.Outside.{Outside, ReadsOnly}
use Rattle.cf_box.specs.PolicyFile.{HasPolicy, WritesPolicy}
use Rattle.cf_ending.specs.declared.Done.{Done}
use Rattle.cf_ending.specs.declared.Stop.{Stop}
use Rattle.cf_ending.specs.declared.Stop.TheVariants as stop
use Rattle.cf_box.proofs.Passing.{policy_passes}

module _ (policy out : List ℕ) (before middle after : Outside) where
  module _ (p : Policy) (has : HasPolicy (before.files.content policy) p) (only : ReadsOnly (policy ∷ []) before.files middle.files)
      (others : KeepsOtherFiles (out ∷ []) middle.files.content after.files.content) (sink : after.sink ≡ before.sink) (pair : after.pair ≡ before.pair) where
    kept : KeepsOtherFiles (out ∷ []) before.files.content after.files.content
    kept = λ other none. others other none ∙ ap (λ f. f other) only.content

    passes : PassesPolicy (Migrate policy out) before
    passes = policy_passes (Migrate policy out) before policy p refl refl refl has

    -- it was read, and then written with this answer
    pub written_meets : (r : Result Done Stop) → WritesPolicy p (middle.files.content out) (after.files.content out) r →
        (r ≡ Err stop.WriteFault → Rose middle.files.write_faults after.files.write_faults) →
        (r ≡ Err stop.NoMemory → after.files.content ≡ middle.files.content) → Meets (Migrate policy out) before after r
    written_meets (Ok d) w rose same = record {
      keeps = record {
        meaning = p;
        has = has;
        holds_text = record {
          text = w.1.text;
          is_document = w.1.is_document;
          means = w.1.means;
          in_file = w.1.in_file ∙ ap (λ f. content_after_write (f out) w.1.text) only.content;
        };
      };
      counts = w.0;
      others = kept;
      sink = sink;
      pair = pair;
    }
    written_meets (Err stop.WriteFault) w rose same = (
      (inl (subst (λ n. Rose n after.files.write_faults) only.writes (rose refl)), passes),
      record {
        meaning = p;
        has = has;
        part = record {
          text = w.text;
          is_document = w.is_document;
          means = w.means;
          in_file = subst (λ f. IsPartly w.text (f out) (after.files.content out)) only.content w.in_file;
        };
        others = kept;
        sink = sink;
        pair = pair;
      },
    )
    written_meets (Err stop.NoMemory) w rose same = (tt, record { content = same refl ∙ only.content; sink = sink; pair = pair })
    written_meets (Err s) w rose same = absurd w
