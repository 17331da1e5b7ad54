-- The judgement of the records of a capture: IsJudgementOfRecords. Flows have one, and records no more than one.
use Rattle.std.specs.List.{AllByRecursion}
use Rattle.std.specs.Prelude.{◌≡◌, List}
use Rattle.cf_judge.specs.Objections.{IsJudgementOf}
use Rattle.cf_judge.specs.declared.Judged.{Judged as Judgement}
use Rattle.cf_policy.specs.declared.Asset.{Asset}
use Rattle.cf_records.specs.Capture.{Record}
use Rattle.cf_view.specs.Octets.{IsOctets}
use Rattle.cf_watch.specs.Flow.{AreFlowsOf}
use Rattle.cf_watch.specs.FlowValue.{FlowValue, IsForAsset}
use Rattle.cf_watch.specs.Watched.{Watched, watched}

-- the judgement of the flows that are watched in these records, the newest first
pub record IsJudgementOfRecords (assets : List Asset) (newest : List Record) (j : Judgement) : Type 0 where
  pub flows : List FlowValue
  pub are_flows : AreFlowsOf (watched assets newest) flows
  pub judges : IsJudgementOf assets flows j

-- what was watched are these flows and no others
abbrev pub FlowsAreOne : Type 0
FlowsAreOne = (ws : List Watched) (flows others : List FlowValue) → AreFlowsOf ws flows → AreFlowsOf ws others → flows ≡ others

-- flows to sites of a policy, whose bytes are octets, have a judgement
abbrev pub FlowsAreJudged : Type 0
FlowsAreJudged =
    (assets : List Asset) (flows : List FlowValue) → AllByRecursion (λ f. IsForAsset assets f × IsOctets f.bytes) flows →
    (j : Judgement) × IsJudgementOf assets flows j

-- two judgements of one list of flows are the same: in the number of commands, and in the objection, which both show or neither
abbrev pub JudgementsAreOne : Type 0
JudgementsAreOne =
    (assets : List Asset) (flows : List FlowValue) (j k : Judgement) → IsJudgementOf assets flows j → IsJudgementOf assets flows k → j ≡ k

-- two judgements of the records of a capture are one
abbrev pub RecordsHaveOneJudgement : Type 0
RecordsHaveOneJudgement =
    (assets : List Asset) (newest : List Record) (j k : Judgement) → IsJudgementOfRecords assets newest j →
    IsJudgementOfRecords assets newest k → j ≡ k
