-- `run POLICY CAPTURE OUT LOG`: a policy is run over a capture: `Runs`.
use Rattle.std.specs.Prelude.{◌≡◌, ◌⊎◌, ℕ, List, [], ◌∷◌, Result, Ok, Err}
use Rattle.cf_lane.specs.declared.limit.TheConstants.{LETTER_LIMIT}
use Rattle.cf_outside.specs.Files.{Content}
use Rattle.cf_outside.specs.Frames.{KeepsOtherFiles}
use Rattle.cf_records.specs.Capture.{Cut}
use Rattle.cf_policy.specs.Within.{IsWithin}
use Rattle.cf_policy.specs.declared.Policy.{Policy}
use Rattle.cf_run.specs.RunCapture.{HasRunRecords, RunNamesValue, RunsAs}
use Rattle.cf_run.specs.declared.run.RunFault.{RunFault}
use Rattle.cf_run.specs.declared.run.RunFault.TheVariants as fault
use Rattle.cf_run.specs.declared.run.RunRefusal.TheVariants as by
use Rattle.cf_run.specs.declared.summary.Summary.{Summary}
use Rattle.cf_ending.specs.Captures.{EndsAt, Refuses, block_refusal, form_refusal}
use Rattle.cf_box.specs.Check.{ChangesNothing}
use Rattle.cf_ending.specs.Outside.{Outside}
use Rattle.cf_box.specs.PolicyFile.{HasPolicy, StopsPolicy}
use Rattle.cf_ending.specs.declared.CaptureRefusal.{CaptureRefusal}
use Rattle.cf_ending.specs.declared.CaptureRefusal.TheVariants as refusal
use Rattle.cf_ending.specs.declared.Done.{Done}
use Rattle.cf_ending.specs.declared.Done.TheVariants as done
use Rattle.cf_ending.specs.declared.Stop.{Stop}
use Rattle.cf_ending.specs.declared.Stop.TheVariants as stop

-- ---- why a capture is no input of a run

-- the capture that is run is refused, for this reason
abbrev pub RunRefuses : Content → CaptureRefusal → Type 0
RunRefuses file r = Refuses HasRunRecords file r

-- a capture that ends inside the record at this place
abbrev pub RunCuts : Content → (place : ℕ) → Type 0
RunCuts file place = EndsAt HasRunRecords file Cut place

-- why the work stops at a fault
abbrev pub run_stop : RunFault → Stop
run_stop fault.NoMemory = stop.NoMemory
run_stop fault.Read = stop.ReadFault
run_stop fault.Write = stop.WriteFault
run_stop (fault.Refused (by.Header of)) = stop.CaptureRefused (form_refusal of)
run_stop (fault.Refused (by.Block of)) = stop.CaptureRefused (block_refusal of)
run_stop (fault.Refused by.TooLong) = stop.CaptureRefused refusal.TooLong
run_stop (fault.Refused by.Clock) = stop.CaptureRefused refusal.Clock
run_stop (fault.Refused by.Large) = stop.CaptureRefused refusal.Large
run_stop (fault.Cut at summary) = stop.RunCut at summary

-- ---- what a run did

module _ (policy_file : List ℕ) (names : RunNamesValue) (before after : Outside) where
  -- the policy, which is in form, was run over the capture, and this was the answer; every other file is as it was
  pub record HasRun (answer : Result Summary RunFault) : Type 0 where
    pub policy : Policy
    pub has : HasPolicy (before.files.content policy_file) policy
    pub within : IsWithin policy
    pub runs : RunsAs policy.assets LETTER_LIMIT names before.files.content after.files.content answer
    pub others : KeepsOtherFiles (names.out ∷ names.log ∷ []) before.files.content after.files.content
    pub sink : after.sink ≡ before.sink
    pub pair : after.pair ≡ before.pair

  -- it came to the end of the capture, and what was counted is told
  abbrev pub Runs : Done → Type 0
  Runs d = (summary : Summary) × HasRun (Ok summary) × (d ≡ done.Ran summary)

  -- the policy was not read, and nothing changed; or the run stopped
  abbrev pub RunLeaves : Stop → Type 0
  RunLeaves s = (StopsPolicy s × ChangesNothing before after) ⊎ ((fault : RunFault) × HasRun (Err fault) × (s ≡ run_stop fault))
