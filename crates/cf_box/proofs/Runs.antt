-- An answer of a run, as the answer of the command.
use Rattle.std.proofs.Common.{◌≡◌, ℕ, List, [], ◌∷◌, Result, Ok, Err, refl, ap, ◌∙◌, subst, arith, inl, inr}
use Rattle.std.specs.Result.{IsErrOf}
use Rattle.cf_lane.specs.declared.limit.TheConstants.{LETTER_LIMIT}
use Rattle.cf_outside.specs.Faults.{Rose}
use Rattle.cf_outside.specs.Files.{Content}
use Rattle.cf_outside.specs.Frames.{KeepsOtherFiles}
use Rattle.cf_records.specs.Capture.{AtPlace}
use Rattle.cf_policy.specs.Within.{IsWithin}
use Rattle.cf_policy.specs.declared.Policy.{Policy}
use Rattle.cf_run.specs.RunCapture.{HasRunRecords, RunNamesValue, RunsAs, RunsTo}
use Rattle.cf_run.specs.declared.run.RunFault.{RunFault}
use Rattle.cf_run.specs.declared.run.RunFault.TheVariants as fault
use Rattle.cf_run.specs.declared.run.RunRefusal.TheVariants as by
use Rattle.cf_run.specs.declared.summary.Summary.{Summary}
use Rattle.cf_view.specs.declared.LinkSet.TheVariants as set
use Rattle.cf_ending.specs.Captures.{EndsAt}
use Rattle.cf_words.specs.Command.{Run}
use Rattle.cf_box.specs.Ends.{Meets, PassesPolicy, StopsFor}
use Rattle.cf_ending.specs.Outside.{Outside, ReadsOnly}
use Rattle.cf_box.specs.PolicyFile.{HasPolicy}
use Rattle.cf_box.specs.Run.{HasRun, run_stop}
use Rattle.cf_ending.specs.declared.Done.{Done}
use Rattle.cf_ending.specs.declared.Done.TheVariants as done
use Rattle.cf_ending.specs.declared.Stop.{Stop}
use Rattle.cf_box.proofs.CaptureStops.{block_refuses, form_refuses}
use Rattle.cf_box.proofs.Passing.{policy_passes}
use Rattle.cf_box.proofs.Reading.{since_read}

-- the answer of the command
abbrev pub run_answer : Result Summary RunFault → Result Done Stop
run_answer (Ok summary) = Ok (done.Ran summary)
run_answer (Err fault) = Err (run_stop fault)

-- every file but the two outputs is as it was
pub kept_but : (names : RunNamesValue) (old middle new : List ℕ → Content) → middle ≡ old → KeepsOtherFiles (names.out ∷ names.log ∷ []) middle new →
    KeepsOtherFiles (names.out ∷ names.log ∷ []) old new
kept_but names old middle new same kept = λ other none. kept other none ∙ ap (λ f. f other) same

module _ (policy_name : List ℕ) (names : RunNamesValue) (before after : Outside) (policy : Policy) (has : HasPolicy (before.files.content policy_name) policy) where
  passes : PassesPolicy (Run policy_name names) before
  passes = policy_passes (Run policy_name names) before policy_name policy refl refl refl has

  -- where the records ended
  ends_at : (found : AtPlace) (place : ℕ) (summary : Summary) → RunsTo policy.assets LETTER_LIMIT names before.files.content after.files.content found place summary → EndsAt HasRunRecords (before.files.content names.capture) found place
  ends_at found place summary r = record { form = r.form; has_form = r.has_form; records = r.records; are_records = r.are_records }

  stops : (f : RunFault) → RunsAs policy.assets LETTER_LIMIT names before.files.content after.files.content (Err f) →
      (f ≡ fault.Read → Rose (before.files.read_faults names.capture) (after.files.read_faults names.capture)) → (f ≡ fault.Write → Rose before.files.write_faults after.files.write_faults) →
      StopsFor (Run policy_name names) before after (run_stop f)
  stops fault.NoMemory h read write = tt
  stops fault.Read h read write = inr (inl (read refl))
  stops fault.Write h read write = (inl (write refl), passes)
  stops (fault.Refused (by.Header of)) h read write = (form_refuses set.Plain HasRunRecords (before.files.content names.capture) of h.0, passes)
  stops (fault.Refused (by.Block of)) h read write =
      (block_refuses set.Plain HasRunRecords (before.files.content names.capture) of (h.0, ends_at _ h.0 h.1 h.2), passes)
  stops (fault.Cut at summary) h read write = (ends_at _ at summary h, passes)
  stops (fault.Refused _) h read write = ((h.0, ends_at _ h.0 h.1 h.2), passes)

  pub run_meets : (r : Result Summary RunFault) → HasRun policy_name names before after r → RunsAs policy.assets LETTER_LIMIT names before.files.content after.files.content r →
      (IsErrOf r fault.Read → Rose (before.files.read_faults names.capture) (after.files.read_faults names.capture)) → (IsErrOf r fault.Write → Rose before.files.write_faults after.files.write_faults) →
      Meets (Run policy_name names) before after (run_answer r)
  run_meets (Ok summary) run h read write = (summary, run, refl)
  run_meets (Err f) run h read write = (stops f h (λ e. read (ap Err e)) (λ e. write (ap Err e)), inr (f, run, refl))

-- the same after files were read, none of which changed
pub run_after : (policy_name : List ℕ) (names : RunNamesValue) (before middle after : Outside) (policy : Policy) → HasPolicy (before.files.content policy_name) policy → IsWithin policy →
    ReadsOnly (policy_name ∷ []) before.files middle.files → (r : Result Summary RunFault) → RunsAs policy.assets LETTER_LIMIT names middle.files.content after.files.content r →
    KeepsOtherFiles (names.out ∷ names.log ∷ []) middle.files.content after.files.content →
    (IsErrOf r fault.Read → Rose (middle.files.read_faults names.capture) (after.files.read_faults names.capture)) → (IsErrOf r fault.Write → Rose middle.files.write_faults after.files.write_faults) →
    after.sink ≡ before.sink → after.pair ≡ before.pair → Meets (Run policy_name names) before after (run_answer r)
run_after policy_name names before middle after policy has within only r runs others read write sink pair =
    let here : RunsAs policy.assets LETTER_LIMIT names before.files.content after.files.content r =
    subst (λ c. RunsAs policy.assets LETTER_LIMIT names c after.files.content r) only.content runs in
    run_meets policy_name names before after policy has r
    (record { policy = policy; has = has; within = within; runs = here; others = kept_but names before.files.content middle.files.content after.files.content only.content others; sink = sink; pair = pair }) here
    (λ e. since_read before.files middle.files after.files only names.capture (read e)) (λ e. let rose = write e in omega (arith, rose, only.writes))
