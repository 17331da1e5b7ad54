-- What is said of two policies, as the answer of the command.
use Rattle.std.proofs.Common.{◌≡◌, ℕ, List, [], ◌∷◌, Result, Ok, Err, refl, subst, ◌∙◌, inl, inr}
use Rattle.cf_policy.specs.declared.Policy.{Policy}
use Rattle.cf_box.specs.Check.{ChangesNothing}
use Rattle.cf_words.specs.Command.{Check, Compare}
use Rattle.cf_box.specs.Compare.{HasPolicies, Says}
use Rattle.cf_box.specs.Ends.{Meets, PassesPolicy, StopsFor}
use Rattle.cf_ending.specs.Outside.{Outside, ReadsOnly}
use Rattle.cf_box.specs.PolicyFile.{HasPolicy, IsRefusedBy, StopsPolicy}
use Rattle.cf_ending.specs.declared.Done.{Done}
use Rattle.cf_ending.specs.declared.Stop.{Stop}
use Rattle.cf_ending.specs.declared.Stop.TheVariants as stop
use Rattle.cf_box.proofs.Reading.{since_read}

module _ (policy other : List ℕ) (before middle after : Outside) (ours : Policy) (has : HasPolicy (before.files.content policy) ours)
    (first : ReadsOnly (policy ∷ []) before.files middle.files) (second : ReadsOnly (other ∷ []) middle.files after.files) (sink : after.sink ≡ before.sink)
    (pair : after.pair ≡ before.pair) where
  same : ChangesNothing before after
  same = record { content = second.content ∙ first.content; sink = sink; pair = pair }

  -- the second policy was not read
  pub other_stops : (s : Stop) → StopsPolicy s → StopsFor (Check other) middle after s → Meets (Compare policy other) before after (Err s)
  other_stops stop.ReadFault early (inl rose) = (inr (inl (since_read before.files middle.files after.files first other rose)), record { unwritten = λ e. cc e; same = same })
  other_stops stop.ReadFault early (inr never) = absurd never
  other_stops (stop.PolicyRefused r) early (inl cause) =
      let e = cause.1 in
      let here : cause.0 ≡ other = cc in
      let refused : IsRefusedBy (middle.files.content other) r = subst (λ f. IsRefusedBy (middle.files.content f) r) here cause.2 in
      let told : IsRefusedBy (before.files.content other) r = subst (λ f. IsRefusedBy (f other) r) first.content refused in
      (inr (inl (other, policy, refl, refl, (ours, has, told))), record { unwritten = λ e. cc e; same = same })
  other_stops (stop.PolicyRefused r) early (inr (inl cause)) = cc (cause.2)
  other_stops (stop.PolicyRefused r) early (inr (inr made)) = absurd made
  other_stops stop.NoMemory early h = (tt, record { unwritten = λ e. cc e; same = same })
  other_stops s early h = absurd early

  module _ (theirs : Policy) (means : HasPolicy (middle.files.content other) theirs) where
    both : HasPolicies policy other before ours theirs
    both = record { has_ours = has; has_theirs = subst (λ f. HasPolicy (f other) theirs) first.content means }

    passes : PassesPolicy (Compare policy other) before
    passes = record {
      policy = λ file e. let here : policy ≡ file = cc in (ours, subst (λ f. HasPolicy (before.files.content f) ours) here has);
      other = λ file e. let here : other ≡ file = cc in (theirs, subst (λ f. HasPolicy (before.files.content f) theirs) here both.has_theirs);
      asset = λ file name e f. cc f;
    }

    -- both were, and this was said of them
    pub policies_meet : (r : Result Done Stop) → Says ours theirs r → Meets (Compare policy other) before after r
    policies_meet (Ok d) s = record { includes = (ours, theirs, both, s.1); answer = s.0; same = same }
    policies_meet (Err (stop.Denied why)) s = (((ours, theirs, both, s), passes), record { unwritten = λ e. cc e; same = same })
    policies_meet (Err (stop.TooManyCells name)) s = (((ours, theirs, both, s), passes), record { unwritten = λ e. cc e; same = same })
    policies_meet (Err stop.NoMemory) s = (tt, record { unwritten = λ e. cc e; same = same })
    policies_meet (Err other_stop) s = absurd s
