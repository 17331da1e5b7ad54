-- `judge POLICY CAPTURE`: whether what clients sent in a capture keeps a policy. The main definitions are `KeepsPolicy`, `Objects` and
-- `JudgesClean`, and `HasJudgement`; what is watched is said in `cf_watch`, and what is objected to in `cf_judge`.
use Rattle.std.specs.Prelude.{◌≡◌, ℕ, List, slice_get, None, Some, Result, Ok, Err}
use Rattle.cf_judge.specs.Objections.{IsJudgementOf}
use Rattle.cf_judge.specs.declared.Complaint.{Complaint}
use Rattle.cf_judge.specs.declared.Complaint.TheVariants as complaint
use Rattle.cf_judge.specs.declared.Judged.{Judged as Judgement}
use Rattle.cf_judge.specs.declared.Objection.{Objection}
use Rattle.cf_policy.specs.Names.{name_of}
use Rattle.cf_policy.specs.declared.Asset.{Asset}
use Rattle.cf_policy.specs.declared.Policy.{Policy}
use Rattle.cf_watch.specs.FlowValue.{FlowValue}
use Rattle.cf_box.specs.Check.{ChangesNothing}
use Rattle.cf_ending.specs.Denial.{denial_text}
use Rattle.cf_ending.specs.Ending.{Puts}
use Rattle.cf_ending.specs.Outside.{Outside}
use Rattle.cf_box.specs.Watching.{HasWatched}
use Rattle.cf_ending.specs.declared.Denial.{Denial}
use Rattle.cf_ending.specs.declared.Denial.TheVariants as denial
use Rattle.cf_ending.specs.declared.Done.{Done}
use Rattle.cf_ending.specs.declared.Done.TheVariants as done
use Rattle.cf_ending.specs.declared.Stop.{Stop}
use Rattle.cf_ending.specs.declared.Stop.TheVariants as stop
use Rattle.cf_ending.specs.declared.Objected.{Objected}
use Rattle.cf_ending.specs.declared.Ground.{Ground}
use Rattle.cf_ending.specs.declared.Ground.TheVariants as told

-- ---- what is said of flows

-- what is told of a complaint and of an objection, with the names that an asset has
abbrev pub IsToldAs : Asset → Complaint → Ground → Type 0
IsToldAs asset (complaint.Conflict position) what = what ≡ told.Conflict position
IsToldAs asset (complaint.Broken reason) what = what ≡ told.Broken reason
IsToldAs asset (complaint.Stray why) what = what ≡ told.Stray why
IsToldAs asset (complaint.Refused decider reason) (told.Refused rule because) = (rule.bytes ≡ name_of asset.rules decider)
    × (because ≡ reason)
IsToldAs asset (complaint.Refused decider reason) _ = ⊥

-- what is told of an objection at an asset is the objection, with the asset's name in the place of its number
pub record IsTold (asset : Asset) (o : Objection) (tells : Objected) : Type 0 where
  pub at_record : tells.at_record ≡ o.at_record
  pub client : tells.client ≡ o.client
  pub name : tells.asset.bytes ≡ asset.name
  pub what : IsToldAs asset o.what tells.what

-- the first objection to flows
pub record ObjectsTo (p : Policy) (flows : List FlowValue) (tells : Objected) : Type 0 where
  pub judged : Judgement
  pub judges : IsJudgementOf p.assets flows judged
  pub objection : Objection
  pub is : judged.objection ≡ Some objection
  pub asset : Asset
  pub here : slice_get p.assets objection.asset ≡ Some asset
  pub told : IsTold asset objection tells

-- flows without an objection
pub record HasNoObjection (p : Policy) (flows : List FlowValue) (d : Done) : Type 0 where
  pub judged : Judgement
  pub judges : IsJudgementOf p.assets flows judged
  pub clean : judged.objection ≡ None
  pub answer : d ≡ done.Unobjected judged.flows judged.commands

-- the answer about flows
abbrev pub SaysOfFlows : Policy → List FlowValue → Result Done Stop → Type 0
SaysOfFlows p flows (Ok d) = HasNoObjection p flows d
SaysOfFlows p flows (Err (stop.Denied (denial.Objects tells))) = ObjectsTo p flows tells
SaysOfFlows p flows (Err stop.NoMemory) = Unit {0}
SaysOfFlows p flows (Err _) = ⊥

-- the objection was printed, with the name of its asset in the place of its number, and the status is 15
pub record IsShown (p : Policy) (objection : Objection) (before after : Outside) (status : ℕ) : Type 0 where
  pub asset : Asset
  pub here : slice_get p.assets objection.asset ≡ Some asset
  pub tells : Objected
  pub told : IsTold asset objection tells
  pub put : Puts (denial_text (denial.Objects tells)) 15 15 before.sink after.sink status

-- ---- of a policy and a capture

module _ (policy capture : List ℕ) (before : Outside) where
  -- this is the first objection to the flows of the capture
  abbrev pub Objects : Denial → Type 0
  Objects (denial.Objects tells) = (p : Policy) × (flows : List FlowValue) × HasWatched policy capture before p flows
      × ObjectsTo p flows tells
  Objects _ = ⊥

  -- no flow of the capture is objected to: each has one letter at each position, and its units are what the policy allows, what is
  -- carried, and what only lengthens a fragment
  abbrev pub KeepsPolicy : Done → Type 0
  KeepsPolicy d = (p : Policy) × (flows : List FlowValue) × HasWatched policy capture before p flows × HasNoObjection p flows d

  -- the work is done: nothing is objected to, and no file changed
  pub record JudgesClean (after : Outside) (d : Done) : Type 0 where
    pub keeps : KeepsPolicy d
    pub same : ChangesNothing before after

  -- the policy means this, and this is the judgement of the flows of the capture: it is one where both files are told, since two judgements
  -- of the records of a capture are one (`cf_unobjected`, `RecordsHaveOneJudgement`)
  pub record HasJudgement (p : Policy) (judged : Judgement) : Type 0 where
    pub flows : List FlowValue
    pub watched : HasWatched policy capture before p flows
    pub judges : IsJudgementOf p.assets flows judged

  -- whatever is told of them, there is no objection
  abbrev pub NeverObjects : Type 0
  NeverObjects = (why : Denial) → Objects why → ⊥
