-- The record that is told of a unit is the first with which the bytes of its flow reach its end: RecordsComeFirst.
use Rattle.std.specs.Prelude.{◌≡◌, ◌+◌, ◌-◌, ◌<◌, ℕ, List, [], ◌∷◌, drop}
use Rattle.cf_lane.specs.Item.{Took}
use Rattle.cf_lane.specs.Judged.{Judged}
use Rattle.cf_lane.specs.Unit.{SpellsUnit, UnitValue}
use Rattle.cf_policy.specs.Site.{SiteValue}
use Rattle.cf_view.specs.Framing.{Begins, BreaksAt}
use Rattle.cf_view.specs.declared.Side.TheVariants as side
use Rattle.cf_watch.specs.Carried.{Carried, IsBornWith}
use Rattle.cf_watch.specs.Flow.{IsFlowOf}
use Rattle.cf_watch.specs.FlowValue.{FlowValue}
use Rattle.cf_watch.specs.Watched.{Watched}
use Rattle.cf_judge.specs.Plain.{AreRead, Breaks, Ending, Whole}
use Rattle.cf_review.specs.FirstUnit.{IsReadPart}

-- what follows the units, from a place of a flow on, may be an octet that breaks: its record is the first with which the bytes reached it
abbrev pub IsEndTold : SiteValue → List Carried → (from : ℕ) → (bytes : List ℕ) → Ending → Type 0
IsEndTold site carried from bytes Whole = Unit {0}
IsEndTold site carried from bytes (Breaks number reason) =
    (place : ℕ) × BreaksAt (SpellsUnit site.first.protocol) bytes place × IsBornWith carried (from + place) number

-- the units of the bytes from a place of a flow on: the record of each is the first with which the bytes reached its last octet
abbrev pub AreTold : SiteValue → List Carried → (from : ℕ) → (bytes : List ℕ) → List Judged → Ending → Type 0
AreTold site carried from bytes [] ending = IsEndTold site carried from bytes ending
AreTold site carried from bytes (j ∷ js) ending =
    (unit : UnitValue) × (n : ℕ) × Begins (SpellsUnit site.first.protocol) bytes unit n × (0 < n) × (j.item ≡ Took side.Client unit)
    × IsBornWith carried (from + n - 1) j.moment × AreTold site carried (from + n) (drop n bytes) js ending

-- the remarks on each flow of a capture, from where it is read on, come in the order of records
abbrev pub RecordsComeFirst : Type 0
RecordsComeFirst =
    (site : SiteValue) (w : Watched) (f read : FlowValue) (js : List Judged) (ending : Ending) → IsFlowOf w f
    → IsReadPart site.first.protocol f read →
    AreRead site read.client.address [] read.bytes read.born js ending →
    (from : ℕ) × (read.bytes ≡ drop from f.bytes) × AreTold site w.carried from read.bytes js ending
