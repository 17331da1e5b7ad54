-- What a run sends has no objection. The main definition is RunsAreUnobjected.
--
-- Its output capture, watched over the assets of its own policy, has flows, each the letters that went from one client to one site. A
-- judge of the same policy reads them by the verdict on each act, and finds no conflict of letters, no octet that no unit has in its
-- place, nothing stray and no command that is refused: neither in whole sessions nor in those that a cut broke off, whatever rules were
-- spent, and whatever the capture holds that the run was given.
use Rattle.std.specs.Prelude.{◌≡◌, ◌<◌, ◌≤◌, ◌^◌, ℕ, List, None, Ok, reverse}
use Rattle.std.specs.List.{AllByRecursion}
use Rattle.cf_isolation.specs.Isolated.{HasWrittenRecords, IsInTime}
use Rattle.cf_judge.specs.Objections.{IsJudgementOf}
use Rattle.cf_judge.specs.declared.judging.Judged.{Judged as Judgement}
use Rattle.cf_outside.specs.Files.{holds}
use Rattle.cf_view.specs.Moment.{moment_limit}
use Rattle.cf_policy.specs.declared.Asset.{Asset}
use Rattle.cf_records.specs.Capture.{Record}
use Rattle.cf_run.specs.Run.{IsRun}
use Rattle.cf_run.specs.Trace.{Input}
use Rattle.cf_run.specs.declared.summary.Summary.{Summary}
use Rattle.cf_view.specs.Octets.{IsOctets}
use Rattle.cf_watch.specs.Flow.{AreFlowsOf}
use Rattle.cf_watch.specs.FlowValue.{FlowValue}
use Rattle.cf_watch.specs.Watch.{WatchesAs}
use Rattle.cf_watch.specs.Watched.{watched}

-- no judgement, under the policy of a run of records in time that writes octets, has an objection to the
-- flows that are watched in the records of these octets, over the assets of the policy. A session is cut at no more than 2^30 letters
abbrev pub RunsAreUnobjected : Type 0
RunsAreUnobjected =
    (assets : List Asset) (limit : ℕ) (given : List Input) (out log : List ℕ) (summary : Summary) →
    IsRun assets limit given out log summary → limit ≤ 2 ^ 30 → IsInTime given out →
    (newest : List Record) → HasWrittenRecords out (reverse newest) → (flows : List FlowValue) → AreFlowsOf (watched assets newest) flows →
    (j : Judgement) → IsJudgementOf assets flows j → j.objection ≡ None

-- no judgement has an objection to the flows that a watcher answers about a file that holds these octets
abbrev pub WatchedRunsAreUnobjected : Type 0
WatchedRunsAreUnobjected =
    (assets : List Asset) (limit : ℕ) (given : List Input) (out log : List ℕ) (summary : Summary) →
    IsRun assets limit given out log summary → limit ≤ 2 ^ 30 → AllByRecursion (λ i. i.moment < moment_limit) given → IsOctets out →
    (flows : List FlowValue) → WatchesAs assets (holds out) (Ok flows) → (j : Judgement) → IsJudgementOf assets flows j → j.objection ≡ None
