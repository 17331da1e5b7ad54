-- What holds where a run came to the end of its capture: RunHolds. It is the headline, of the files as they stand.
use Rattle.std.specs.List.{AllByRecursion}
use Rattle.std.specs.Prelude.{◌≡◌, ℕ, List, [], ◌∷◌}
use Rattle.cf_lane.specs.declared.limit.TheConstants.{LETTER_LIMIT}
use Rattle.cf_outside.specs.Frames.{KeepsOtherFiles}
use Rattle.cf_outside.specs.Sink.{printed_with}
use Rattle.cf_records.specs.Capture.{FileEnd}
use Rattle.cf_policy.specs.declared.Policy.{Policy}
use Rattle.cf_run.specs.Headline.{HasHeadline}
use Rattle.cf_run.specs.Logged.{EachIsLogged}
use Rattle.cf_run.specs.RunCapture.{RunNamesValue, RunsTo}
use Rattle.cf_run.specs.Sessions.{sessions_of}
use Rattle.cf_run.specs.SiteOf.{HasSite}
use Rattle.cf_run.specs.declared.summary.Summary.{Summary}
use Rattle.cf_ending.specs.Ending.{summary_text}
use Rattle.cf_ending.specs.Outside.{Outside}
use Rattle.cf_box.specs.PolicyFile.{HasPolicy}

-- The policy's bytes mean a policy; the capture's records up to its end were run over by it; the two outputs hold what the box
-- sent and logged, which is what the rules of sessions say of these records; what was counted was printed. And after each event
-- whatever a controller puts together in a session decodes to the first of what the policy let through, and for each asset behind its
-- address and port, by its station, to the first of what this asset's rules admit: no two of them have one station. The lines and counts of
-- the session are those of the judged items of all that was taken of both sides.
pub record RunHolds (policy_file : List ℕ) (names : RunNamesValue) (before after : Outside) : Type 0 where
  pub policy : Policy
  pub has : HasPolicy (before.files.content policy_file) policy
  pub place : ℕ
  pub summary : Summary
  pub runs : RunsTo policy.assets LETTER_LIMIT names before.files.content after.files.content FileEnd place summary
  pub headline : HasHeadline runs.leaves.is_run.events
  pub sites : AllByRecursion HasSite (sessions_of runs.leaves.is_run.events)
  pub logged : EachIsLogged runs.leaves.is_run.events
  pub others : KeepsOtherFiles (names.out ∷ names.log ∷ []) before.files.content after.files.content
  pub printed : after.sink.text ≡ printed_with before.sink.text (summary_text summary)
  pub pair : after.pair ≡ before.pair
