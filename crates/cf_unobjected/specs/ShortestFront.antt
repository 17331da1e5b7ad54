-- The objection of a capture is that of its shortest front of records that has one: ObjectionsAreOfShortestFronts.
use Rattle.std.specs.Prelude.{◌≡◌, ◌++◌, ◌<◌, ℕ, nat_le, if◌then◌else◌, List, length, Option, None, Some}
use Rattle.cf_judge.specs.declared.Judged.{Judged as Judgement}
use Rattle.cf_judge.specs.declared.Objection.{Objection}
use Rattle.cf_policy.specs.declared.Asset.{Asset}
use Rattle.cf_records.specs.Capture.{Record}
use Rattle.cf_unobjected.specs.OneJudgement.{IsJudgementOfRecords}

-- the records of a capture, the newest first, have this objection, or none
abbrev pub HasObjection : List Asset → (newest : List Record) → Option Objection → Type 0
HasObjection assets newest objection = (j : Judgement) × IsJudgementOfRecords assets newest j × (j.objection ≡ objection)

-- an objection that comes with one of the first records, so many; and else none
abbrev pub within : (count : ℕ) → Option Objection → Option Objection
within count None = None
within count (Some o) = if nat_le o.at_record count then Some o else None

-- a front of the records of a capture has the objection of all of them where that comes with one of its records, and else none
abbrev pub FrontsAreJudged : Type 0
FrontsAreJudged =
    (assets : List Asset) (newer older : List Record) (objection : Option Objection) → HasObjection assets (newer ++ older) objection
    → HasObjection assets older (within (length older) objection)

-- a front of these records that ends with the record of the objection and has this objection, where each shorter front has none
pub record IsOfShortestFront (assets : List Asset) (newest : List Record) (o : Objection) : Type 0 where
  pub newer : List Record
  pub front : List Record
  pub are : newest ≡ newer ++ front
  pub last : length front ≡ o.at_record
  pub here : HasObjection assets front (Some o)
  pub shorter : (later fewer : List Record) → front ≡ later ++ fewer → length fewer < length front → HasObjection assets fewer None

abbrev pub ObjectionsAreOfShortestFronts : Type 0
ObjectionsAreOfShortestFronts =
    (assets : List Asset) (newest : List Record) (o : Objection) → HasObjection assets newest (Some o) → IsOfShortestFront assets newest o
