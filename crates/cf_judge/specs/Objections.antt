-- What is objected to in flows: IsJudgementOf. The first record with which something is wrong counts; in one record a conflict comes
-- before the items, and these in the order of the bytes.
use Rattle.std.specs.Prelude.{◌≡◌, ◌+◌, ◌-◌, ◌^◌, min, ℕ, nat_lt, if◌then◌else◌, List, [], ◌∷◌, length, map, Option, Some, None}
use Rattle.std.specs.Prelude.{option_map}
use Rattle.std.specs.Option.{option_or}
use Rattle.cf_lane.specs.Judged.{Judged, is_admitted, one_if}
use Rattle.cf_lane.specs.Site.{item_place}
use Rattle.cf_lane.specs.declared.fate.Fate.{Fate}
use Rattle.cf_policy.specs.Site.{SiteValue, site_from}
use Rattle.cf_policy.specs.declared.Asset.{Asset}
use Rattle.cf_watch.specs.FlowValue.{FlowValue}
use Rattle.cf_watch.specs.declared.flow.Conflict.{Conflict}
use Rattle.cf_judge.specs.Ruling.{complaint_of}
use Rattle.cf_judge.specs.Plain.{AreRead, Breaks, Ending, Whole}
use Rattle.cf_judge.specs.declared.ruling.Complaint.{Complaint}
use Rattle.cf_judge.specs.declared.ruling.Complaint.TheVariants as complaint
use Rattle.cf_judge.specs.declared.judging.Judged.{Judged as Judgement}
use Rattle.cf_judge.specs.declared.judging.Objection.{Objection}
use Rattle.cf_judge.specs.declared.judging.Wrong.{Wrong}

-- what is wrong with the record of this number, about the asset of a place of the site
abbrev pub wrong : (record_number place : ℕ) → Complaint → Wrong
wrong number place what = record { number = number; place = place; what = what }

-- what is wrong with an item of this fate, if anything is
abbrev pub wrong_by_fate : (record_number place : ℕ) → Fate → Option Wrong
wrong_by_fate number place f = option_map (wrong number place) (complaint_of f)

-- what is wrong with a judged item, if anything is: its moment is the number of its record
abbrev pub wrong_in : SiteValue → Judged → Option Wrong
wrong_in site j = wrong_by_fate j.moment (item_place site j.item) j.fate

-- what is wrong where the bytes end, if they break there
abbrev pub wrong_at : Ending → Option Wrong
wrong_at Whole = None
wrong_at (Breaks number reason) = Some (wrong number 0 (complaint.Broken reason))

-- the first in the order of the bytes
abbrev pub first_wrong : SiteValue → List Judged → Ending → Option Wrong
first_wrong site [] ending = wrong_at ending
first_wrong site (j ∷ js) ending = option_or (wrong_in site j) (first_wrong site js ending)

-- the one that came with the earlier record, and of two with one record the first
abbrev pub sooner : Option Wrong → Option Wrong → Option Wrong
sooner None later = later
sooner (Some a) None = Some a
sooner (Some a) (Some b) = if nat_lt b.number a.number then Some b else Some a

-- what is wrong by a conflict
abbrev pub wrong_by : Conflict → Wrong
wrong_by c = wrong c.at_record 0 (complaint.Conflict c.position)

-- the objection to a flow, by what is wrong in it: it names the asset that the unit was for, and else the site's first
abbrev pub objected : FlowValue → Wrong → Objection
objected f w = record { at_record = w.number; client = f.client; asset = f.asset + w.place; what = w.what }

-- the objection to a flow with this first wrong in its bytes; and to one whose bytes have these units
abbrev pub objection_by : FlowValue → Option Wrong → Option Objection
objection_by f first = option_map (objected f) (sooner (option_map wrong_by f.conflict) first)

-- the objection to a flow to a site whose bytes have these items and end so
abbrev pub objection_of : SiteValue → FlowValue → List Judged → Ending → Option Objection
objection_of site f js ending = objection_by f (first_wrong site js ending)

-- the earlier of two objections: the one with the earlier record, and of two with one record the first
abbrev pub earlier : Option Objection → Option Objection → Option Objection
earlier None later = later
earlier (Some a) None = Some a
earlier (Some a) (Some b) = if nat_lt b.at_record a.at_record then Some b else Some a

-- the bytes of a flow, read
pub record Reading : Type 0 where
  pub flow : FlowValue
  pub judged : List Judged
  pub ending : Ending

-- a reading by the site that begins at its place of the policy, each item after the earlier ones
abbrev pub IsReadBy : Option SiteValue → Reading → Type 0
IsReadBy None r = ⊥
IsReadBy (Some site) r = AreRead site r.flow.client.address [] r.flow.bytes r.flow.born r.judged r.ending

-- each flow is read by the site at its place of the policy
abbrev pub AreReadBy : List Asset → List Reading → Type 0
AreReadBy assets [] = Unit {0}
AreReadBy assets (r ∷ rs) = IsReadBy (site_from assets r.flow.asset) r × AreReadBy assets rs

-- the objection to a reading by its site
abbrev pub objection_in : Option SiteValue → Reading → Option Objection
objection_in None r = None
objection_in (Some site) r = objection_of site r.flow r.judged r.ending

-- the earliest of all flows, the first flow's where two have one record
abbrev pub objection_to : List Asset → Option Objection → List Reading → Option Objection
objection_to assets first [] = first
objection_to assets first (r ∷ rs) = objection_to assets (earlier first (objection_in (site_from assets r.flow.asset) r)) rs

-- the commands that are admitted, up to what a count can say
abbrev pub admitted_in : List Judged → ℕ
admitted_in [] = 0
admitted_in (j ∷ js) = one_if (is_admitted j.fate) + admitted_in js

-- the admitted commands that the flows have besides those counted, up to 2^64 - 1
abbrev pub commands_in : ℕ → List Reading → ℕ
commands_in count [] = count
commands_in count (r ∷ rs) = commands_in (min (count + admitted_in r.judged) (2 ^ 64 - 1)) rs

-- the flows can be read so, and this is what is found in them
pub record IsJudgementOf (assets : List Asset) (flows : List FlowValue) (j : Judgement) : Type 0 where
  pub readings : List Reading
  pub of_flows : map (λ r. r.flow) readings ≡ flows
  pub are_read : AreReadBy assets readings
  pub counts : j.flows ≡ length flows
  pub commands : j.commands ≡ commands_in 0 readings
  pub objection : j.objection ≡ objection_to assets None readings
