-- `world SEED SESSIONS POLICY CAPTURE OUT LOG`: a policy and a capture are made from a number, and run: `MakesAndRuns` and `WorldHolds`.
use Rattle.std.specs.Prelude.{◌≡◌, ◌⊎◌, ℕ, List, [], ◌∷◌, Err}
use Rattle.cf_outside.specs.Frames.{KeepsOtherFiles}
use Rattle.cf_run.specs.RunCapture.{RunNamesValue}
use Rattle.cf_world.specs.World.{LeavesWorld, MakesWorld, WorldNamesValue}
use Rattle.cf_world.specs.declared.WorldFault.{WorldFault}
use Rattle.cf_world.specs.declared.WorldFault.TheVariants as fault
use Rattle.cf_ending.specs.Outside.{Outside}
use Rattle.cf_box.specs.Run.{RunLeaves, Runs}
use Rattle.cf_box.specs.RunHolds.{RunHolds}
use Rattle.cf_ending.specs.declared.Done.{Done}
use Rattle.cf_ending.specs.declared.Stop.{Stop}
use Rattle.cf_ending.specs.declared.Stop.TheVariants as stop

-- the files that are made before the run
abbrev pub made_names : (policy : List ℕ) → RunNamesValue → WorldNamesValue
made_names policy names = record { policy = policy; capture = names.capture }

-- why the work stops where the world was not made
abbrev pub world_stop : WorldFault → Stop
world_stop fault.NoMemory = stop.NoMemory
world_stop fault.Write = stop.WriteFault

module _ (sessions : ℕ) (policy : List ℕ) (names : RunNamesValue) (before after : Outside) where
  -- the world was made, this stood between, and after it the two files stayed as they were made
  pub record HasMade (between : Outside) : Type 0 where
    pub leaves : LeavesWorld sessions (made_names policy names) before.files.content after.files.content
    pub same_policy : after.files.content policy ≡ between.files.content policy
    pub same_capture : after.files.content names.capture ≡ between.files.content names.capture
    pub others : KeepsOtherFiles (policy ∷ names.capture ∷ []) before.files.content between.files.content
    pub sink : between.sink ≡ before.sink
    pub pair : between.pair ≡ before.pair

  -- it was not, for this fault; every file but its two is as it was
  pub record HasNotMade (why : WorldFault) : Type 0 where
    pub leaves : MakesWorld sessions (made_names policy names) before.files.content after.files.content (Err why)
    pub others : KeepsOtherFiles (policy ∷ names.capture ∷ []) before.files.content after.files.content
    pub sink : after.sink ≡ before.sink
    pub pair : after.pair ≡ before.pair

  -- it was made, and what was made was run to its end
  abbrev pub MakesAndRuns : Done → Type 0
  MakesAndRuns d = (between : Outside) × HasMade between × Runs policy names between after d

  -- it was not made; or it was, and its run stopped
  abbrev pub WorldLeaves : Stop → Type 0
  WorldLeaves s =
      ((why : WorldFault) × HasNotMade why × (s ≡ world_stop why))
      ⊎ ((between : Outside) × HasMade between × RunLeaves policy names between after s)

  -- What holds where it was made and run: the policy's file has a text that means the document's policy, the capture's file a
  -- capture in form in which each session begins, and the headline is so of the files as they stand.
  pub record WorldHolds : Type 0 where
    pub between : Outside
    pub made : HasMade between
    pub holds : RunHolds policy names between after
