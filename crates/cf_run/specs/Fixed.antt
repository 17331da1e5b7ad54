-- The records fix a run: RecordsFixRuns.
use Rattle.std.specs.Prelude.{◌≡◌, ℕ, List}
use Rattle.cf_policy.specs.declared.Asset.{Asset}
use Rattle.cf_run.specs.Run.{IsRun, inputs_of}
use Rattle.cf_run.specs.Trace.{AreRunEvents, RunEvent, Input}
use Rattle.cf_run.specs.declared.summary.Summary.{Summary}

-- two lists of right events over the same records are the same
abbrev pub RecordsFixEvents : Type 0
RecordsFixEvents =
    (assets : List Asset) (limit : ℕ) (events others : List RunEvent) → AreRunEvents assets limit events → AreRunEvents assets limit others
    → inputs_of events ≡ inputs_of others →
    events ≡ others

-- two runs of one policy over the same records have the same output file, the same log and the same counts
abbrev pub RecordsFixRuns : Type 0
RecordsFixRuns =
    (assets : List Asset) (limit : ℕ) (given : List Input) (out other_out log other_log : List ℕ) (summary other_summary : Summary) →
    IsRun assets limit given out log summary → IsRun assets limit given other_out other_log other_summary →
    (out ≡ other_out) × (log ≡ other_log) × (summary ≡ other_summary)
