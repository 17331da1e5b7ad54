-- What a review has to do with the judge: JudgeTellsTheFirst.
use Rattle.std.specs.Prelude.{◌≡◌, List, [], ◌∷◌, length, Option, None, Some, option_and_then, option_map}
use Rattle.std.specs.List.{AllByRecursion}
use Rattle.std.specs.List.Sorted.{IsNonDecreasingBy}
use Rattle.cf_judge.specs.Objections.{AreReadBy, Reading, objection_to}
use Rattle.cf_judge.specs.declared.Complaint.{Complaint}
use Rattle.cf_judge.specs.declared.Complaint.TheVariants as complaint
use Rattle.cf_judge.specs.declared.Objection.{Objection}
use Rattle.cf_policy.specs.declared.Asset.{Asset}
use Rattle.cf_records.specs.Capture.{Record}
use Rattle.cf_watch.specs.Flow.{AreFlowsOf}
use Rattle.cf_watch.specs.FlowValue.{FlowValue}
use Rattle.cf_watch.specs.Seen.{seen_by}
use Rattle.cf_watch.specs.declared.Scope.{Scope}
use Rattle.cf_review.specs.FirstUnit.{AreReadParts}
use Rattle.cf_review.specs.Remark.{Broken, Conflict, Gap, MatterValue, Midstream, Refused, RemarkValue, Stray}
use Rattle.cf_review.specs.Review.{AreInOrder, all_remarks}

-- what the judge tells of what is remarked; it has no flow that begins amid its stream, and reads none behind a gap
abbrev pub complaint_by : MatterValue → Option Complaint
complaint_by (Refused refusal octets) = Some (complaint.Refused refusal.decider refusal.reason)
complaint_by (Stray because) = Some (complaint.Stray because)
complaint_by (Broken reason) = Some (complaint.Broken reason)
complaint_by (Conflict position) = Some (complaint.Conflict position)
complaint_by Midstream = None
complaint_by (Gap position) = None

-- an objection with the record, the client and the asset of a remark
abbrev pub objection_about : RemarkValue → Complaint → Objection
objection_about r what = record { at_record = r.at_record; client = r.client; asset = r.asset; what = what }

-- a remark as the judge tells it, if it does
abbrev pub objection_by : RemarkValue → Option Objection
objection_by r = option_map (objection_about r) (complaint_by r.what)

-- the first of some remarks, if there is one
abbrev pub first_of : List RemarkValue → Option RemarkValue
first_of [] = None
first_of (r ∷ rs) = Some r

-- each byte of a flow came with a record, and none with an earlier one than a byte before it
pub record IsRising (f : FlowValue) : Type 0 where
  pub count : length f.born ≡ length f.bytes
  pub rises : IsNonDecreasingBy (λ n. n) f.born

-- the flows of each capture, and the parts of them that are read, have their bytes in the order of records
abbrev pub BytesComeInOrder : Type 0
BytesComeInOrder =
    (scope : Scope) (assets : List Asset) (newest : List Record) (flows read : List FlowValue)
    → AreFlowsOf (seen_by scope assets newest) flows →
    AreReadParts assets flows read → AllByRecursion IsRising flows × AllByRecursion IsRising read

-- a flow begins with its SYN
abbrev pub BeginsWithSyn : FlowValue → Type 0
BeginsWithSyn f = f.midstream ≡ None

-- the judge's objection to flows that begin with a SYN, are read so, and have no other stretches is the first remark of a review
abbrev pub JudgeTellsTheFirst : Type 0
JudgeTellsTheFirst =
    (assets : List Asset) (readings : List Reading) (told : List RemarkValue) → AreReadBy assets readings
    → AllByRecursion (λ r. IsRising r.flow) readings →
    AllByRecursion (λ r. BeginsWithSyn r.flow) readings → AreInOrder (all_remarks assets readings []) told →
    objection_to assets None readings ≡ option_and_then objection_by (first_of told)
