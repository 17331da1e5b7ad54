-- The answers of the watching of a capture, of what is learned from it and of its writing, as the answer of the command.
use Rattle.std.proofs.Math.Seq.{get_or-append_seam}
use Rattle.std.proofs.lemmas.Option.{slice_get_read}
use Rattle.std.proofs.Common.{◌≡◌, ℕ, List, [], ◌∷◌, ◌++◌, length, slice_get, Some, Result, Ok, Err, refl, sym, ap, subst, ◌∙◌, inl, inr, arith, length-append}
use Rattle.cf_learn.specs.Assets.{IsFirstTooMany}
use Rattle.cf_outside.specs.Faults.{Rose}
use Rattle.cf_outside.specs.Files.{IsPartly, content_after_write}
use Rattle.cf_outside.specs.Frames.{KeepsOtherFiles}
use Rattle.cf_policy.specs.declared.Asset.{Asset}
use Rattle.cf_policy.specs.declared.Policy.{Policy}
use Rattle.cf_watch.specs.FlowValue.{FlowValue}
use Rattle.cf_watch.specs.Watch.{HasFlows, WatchesAs}
use Rattle.cf_watch.specs.declared.WatchFault.{WatchFault}
use Rattle.cf_watch.specs.declared.WatchFault.TheVariants as fault
use Rattle.cf_watch.specs.declared.WatchRefusal.TheVariants as watch
use Rattle.cf_box.specs.Check.{ChangesNothing}
use Rattle.cf_words.specs.Command.{Learn}
use Rattle.cf_box.specs.Ends.{Meets, PassesPolicy}
use Rattle.cf_box.specs.Learn.{IsLearned, LearnLeaves, Learns, LearnsAs, ShowTooMuch}
use Rattle.cf_ending.specs.Outside.{Outside, ReadsOnly}
use Rattle.cf_box.specs.PolicyFile.{HasPolicy, WritesPolicy}
use Rattle.cf_box.specs.Watching.{HasWatched, fault_stop}
use Rattle.cf_ending.specs.declared.Done.{Done}
use Rattle.cf_ending.specs.declared.Stop.{Stop}
use Rattle.cf_ending.specs.declared.Stop.TheVariants as stop
use Rattle.cf_box.proofs.CaptureStops.{unwatched}
use Rattle.cf_box.proofs.Passing.{policy_passes}

at_seam : (xs : List Asset) (y : Asset) (ys : List Asset) → slice_get (xs ++ y ∷ ys) (length xs) ≡ Some y
at_seam xs y ys =
    slice_get_read (xs ++ y ∷ ys) (length (xs ++ y ∷ ys)) (length xs) y refl (omega (arith, length-append xs (y ∷ ys))) (sym (get_or-append_seam xs y ys y))

-- the name at the place is that of the asset
pub first_named : (p : Policy) (flows : List FlowValue) (place : ℕ) (name : List ℕ) → IsFirstTooMany flows p.assets place →
    ((asset : Asset) → slice_get p.assets place ≡ Some asset → name ≡ asset.name) → ShowTooMuch p flows name
first_named p flows place name first names =
    let here : slice_get (first.earlier ++ first.asset ∷ first.later) place ≡ Some first.asset =
    subst (λ n. slice_get (first.earlier ++ first.asset ∷ first.later) n ≡ Some first.asset) first.at (at_seam first.earlier first.asset first.later) in
    record { place = place; first = first; named = names first.asset (subst (λ l. slice_get l place ≡ Some first.asset) (sym first.here) here) }

module _ (policy capture out : List ℕ) (before : Outside) (p : Policy) (has : HasPolicy (before.files.content policy) p) where
  passes : PassesPolicy (Learn policy capture out) before
  passes = policy_passes (Learn policy capture out) before policy p refl refl refl has

  -- the capture was not watched to its end
  unwatched_leaves : (after : Outside) (f : WatchFault) → ChangesNothing before after → LearnLeaves policy capture out before after (fault_stop f)
  unwatched_leaves after (fault.Refused watch.Long) same = same
  unwatched_leaves after _ same = same

  pub unwatched_meets : (middle after : Outside) → ReadsOnly (policy ∷ []) before.files middle.files → after.files.content ≡ middle.files.content → after.sink ≡ before.sink →
      after.pair ≡ before.pair → (f : WatchFault) → (f ≡ fault.Read → Rose (middle.files.read_faults capture) (after.files.read_faults capture)) →
      WatchesAs p.assets (middle.files.content capture) (Err f) → Meets (Learn policy capture out) before after (Err (fault_stop f))
  unwatched_meets middle after only same sink pair f read w = (
    unwatched (Learn policy capture out) before after capture (λ r h. h) (λ place h. h) (λ rose. inr (inl rose)) passes middle only f read w,
    unwatched_leaves after f (record { content = same ∙ only.content; sink = sink; pair = pair }),
  )

  pub has_watched : (middle : Outside) (flows : List FlowValue) → ReadsOnly (policy ∷ []) before.files middle.files → HasFlows p.assets (middle.files.content capture) flows →
      HasWatched policy capture before p flows
  has_watched middle flows only w = record { has_policy = has; has_flows = subst (λ c. HasFlows p.assets (c capture) flows) only.content w }

  module _ (flows : List FlowValue) (watched : HasWatched policy capture before p flows) where
    -- nothing was learned
    pub unlearned_meets : (after : Outside) → ChangesNothing before after → (s : Stop) → LearnsAs p flows (Err s) → Meets (Learn policy capture out) before after (Err s)
    unlearned_meets after same (stop.TooManyRules name) l = (((p, flows, watched, l), passes), same)
    unlearned_meets after same stop.NoMemory l = (tt, same)
    unlearned_meets after same s l = absurd l

    module _ (middle after : Outside) (learned : Policy) (is : IsLearned p flows learned) (only : ReadsOnly (policy ∷ capture ∷ []) before.files middle.files)
        (others : KeepsOtherFiles (out ∷ []) middle.files.content after.files.content) (sink : after.sink ≡ before.sink) (pair : after.pair ≡ before.pair) where
      kept : KeepsOtherFiles (out ∷ []) before.files.content after.files.content
      kept = λ other none. others other none ∙ ap (λ f. f other) only.content

      learns : Learns policy capture before learned
      learns = record { known = p; flows = flows; watched = watched; is_learned = is }

      -- it was written with this answer
      pub written_meets : (r : Result Done Stop) → WritesPolicy learned (middle.files.content out) (after.files.content out) r →
          (r ≡ Err stop.WriteFault → Rose middle.files.write_faults after.files.write_faults) →
          (r ≡ Err stop.NoMemory → after.files.content ≡ middle.files.content) → Meets (Learn policy capture out) before after r
      written_meets (Ok d) w rose same = record {
        holds = record {
          learned = learned;
          learns = learns;
          holds_text = record {
            text = w.1.text;
            is_document = w.1.is_document;
            means = w.1.means;
            in_file = w.1.in_file ∙ ap (λ f. content_after_write (f out) w.1.text) only.content;
          };
        };
        counts = w.0;
        others = kept;
        sink = sink;
        pair = pair;
      }
      written_meets (Err stop.WriteFault) w rose same = (
        (inl (subst (λ n. Rose n after.files.write_faults) only.writes (rose refl)), passes),
        record {
          learned = learned;
          learns = learns;
          part = record {
            text = w.text;
            is_document = w.is_document;
            means = w.means;
            in_file = subst (λ f. IsPartly w.text (f out) (after.files.content out)) only.content w.in_file;
          };
          others = kept;
          sink = sink;
          pair = pair;
        },
      )
      written_meets (Err stop.NoMemory) w rose same = (tt, record { content = same refl ∙ only.content; sink = sink; pair = pair })
      written_meets (Err s) w rose same = absurd w
