-- All that is objected to in flows, in the order of the records: IsReviewOf. In one record it comes first that a flow begins amid its
-- stream, then a conflict, then the items of the flow, in the order of the bytes; and flows come in their order. Behind all flows come their
-- other stretches, of each first the gap.
use Rattle.std.specs.Prelude.{◌≡◌, ◌==◌, ◌+◌, ◌-◌, ◌^◌, ℕ, ℤ, Bool, List, [], ◌∷◌, ◌++◌, length, map, min, take, Option, Some, None}
use Rattle.std.specs.List.{filter, flat_map}
use Rattle.std.specs.List.Sorted.{IsNonDecreasingBy}
use Rattle.cf_lane.specs.Item.{Broke, Ended, Item, Took}
use Rattle.cf_lane.specs.Judged.{Judged, in_turn}
use Rattle.cf_lane.specs.Log.{command_octets}
use Rattle.cf_lane.specs.Parts.{part}
use Rattle.cf_lane.specs.Site.{item_place}
use Rattle.cf_lane.specs.declared.fate.Fate.{Fate}
use Rattle.cf_lane.specs.declared.fate.Fate.TheVariants as fate
use Rattle.cf_policy.specs.Site.{SiteValue, asset_of, site_from}
use Rattle.cf_policy.specs.declared.Asset.{Asset}
use Rattle.cf_watch.specs.FlowValue.{FlowValue, StretchValue}
use Rattle.cf_watch.specs.declared.flow.Conflict.{Conflict as ConflictOf}
use Rattle.cf_judge.specs.Objections.{AreReadBy, IsReadBy, Reading, admitted_in, commands_in}
use Rattle.cf_judge.specs.Plain.{AreRead, Breaks, Ending, Whole}
use Rattle.cf_review.specs.FirstUnit.{AreReadParts, IsReadPart, IsReadPartAt}
use Rattle.cf_review.specs.Remark.{Broken, Conflict, Gap, MatterValue, Midstream, Refused, RemarkValue, Stray, remark_value}
use Rattle.cf_review.specs.declared.remark.TheConstants.{SHOWN}
use Rattle.cf_review.specs.declared.reviewing.Reviewed.{Reviewed}

-- a remark on a flow, about the asset of a place of its site: what is about no unit goes under the first
abbrev pub remark_on : FlowValue → (record_number place : ℕ) → MatterValue → RemarkValue
remark_on f number place what = record { at_record = number; client = f.client; asset = f.asset + place; what = what }

-- the octets of the command that an item completes, by the asset of a place, after the earlier items that concern it
abbrev pub octets_by : SiteValue → (k : ℕ) → (earlier : List Judged) → Item → List ℕ
octets_by site k earlier (Took s unit) = command_octets (asset_of site k) (part site k earlier) s unit
octets_by site k earlier (Ended s rest) = []
octets_by site k earlier (Broke s because) = []

-- a command of these octets is objected to if it is refused, and what is stray is
abbrev pub matters : (octets : List ℕ) → Fate → List MatterValue
matters octets (fate.Refused refusal) = Refused refusal (take SHOWN octets) ∷ []
matters octets (fate.Stray because) = Stray because ∷ []
matters octets fate.Carried = []
matters octets (fate.Admitted used) = []
matters octets fate.Lengthens = []
matters octets (fate.Cuts because) = []

-- the remarks on one unit of a flow by the asset of a place; its moment is the number of its record
abbrev pub unit_remarks_by : SiteValue → (k : ℕ) → FlowValue → (earlier : List Judged) → Judged → List RemarkValue
unit_remarks_by site k f earlier j = map (remark_on f j.moment k) (matters (octets_by site k earlier j.item) j.fate)

-- by the asset that it is for
abbrev pub unit_remarks : SiteValue → FlowValue → (earlier : List Judged) → Judged → List RemarkValue
unit_remarks site f earlier j = unit_remarks_by site (item_place site j.item) f earlier j

-- the remark of an end of a flow's bytes: one where they break
abbrev pub end_remarks : FlowValue → Ending → List RemarkValue
end_remarks f Whole = []
end_remarks f (Breaks number reason) = remark_on f number 0 (Broken reason) ∷ []

-- the remark of a flow's conflict, if it has one
abbrev pub conflict_remarks : FlowValue → Option ConflictOf → List RemarkValue
conflict_remarks f None = []
conflict_remarks f (Some c) = remark_on f c.at_record 0 (Conflict c.position) ∷ []

-- the remark on a flow that begins amid its stream, if it does
abbrev pub midstream_remarks : FlowValue → Option ℕ → List RemarkValue
midstream_remarks f None = []
midstream_remarks f (Some number) = remark_on f number 0 Midstream ∷ []

-- the remarks on a flow whose bytes are these units and this ending
abbrev pub flow_remarks : SiteValue → FlowValue → List Judged → Ending → List RemarkValue
flow_remarks site f js ending =
    midstream_remarks f f.midstream ++ (conflict_remarks f f.conflict ++ (in_turn (unit_remarks site f) [] js ++ end_remarks f ending))

-- the bytes of a flow are some units and an ending, and these are the remarks after others on these, with so many commands allowed, up
-- to 2^64 - 1
pub record AddsUnits (site : SiteValue) (f : FlowValue) (old new : List RemarkValue) (admitted : ℕ) : Type 0 where
  pub judged : List Judged
  pub ending : Ending
  pub are_read : AreRead site f.client.address [] f.bytes f.born judged ending
  pub admitted_is : admitted ≡ min (admitted_in judged) (2 ^ 64 - 1)
  pub remarks : new ≡ old ++ (in_turn (unit_remarks site f) [] judged ++ end_remarks f ending)

-- the part of a flow that is read is some units and an ending, and these are the remarks after others on it, with so many commands allowed
pub record AddsReview (site : SiteValue) (f : FlowValue) (old new : List RemarkValue) (admitted : ℕ) : Type 0 where
  pub read : FlowValue
  pub is_part : IsReadPart site.first.protocol f read
  pub judged : List Judged
  pub ending : Ending
  pub are_read : AreRead site read.client.address [] read.bytes read.born judged ending
  pub admitted_is : admitted ≡ min (admitted_in judged) (2 ^ 64 - 1)
  pub remarks : new ≡ old ++ flow_remarks site read judged ending

-- the remarks on a flow to the site at its place
abbrev pub remarks_by : Option SiteValue → Reading → List RemarkValue
remarks_by None r = []
remarks_by (Some site) r = flow_remarks site r.flow r.judged r.ending

-- the remarks on all flows, one after the other
abbrev pub remarks_on : List Asset → List Reading → List RemarkValue
remarks_on assets readings = flat_map (λ r. remarks_by (site_from assets r.flow.asset) r) readings

-- ---- the other stretches of flows

-- a stretch that is read, and the position of the gap where it tells one
pub record StretchReading : Type 0 where
  pub gap : Option ℤ
  pub reading : Reading

-- the remark on a gap, with the record with which reading goes on
abbrev pub gap_remarks : FlowValue → (gap : Option ℤ) → (begins : Option ℕ) → List RemarkValue
gap_remarks f None begins = []
gap_remarks f (Some position) None = []
gap_remarks f (Some position) (Some number) = remark_on f number 0 (Gap position) ∷ []

-- the remarks on a stretch whose bytes are these units and this ending
abbrev pub stretch_remarks : SiteValue → StretchReading → List RemarkValue
stretch_remarks site b =
    gap_remarks b.reading.flow b.gap b.reading.flow.midstream
    ++ (in_turn (unit_remarks site b.reading.flow) [] b.reading.judged ++ end_remarks b.reading.flow b.reading.ending)

-- the remarks on a stretch of a flow to the site at its place
abbrev pub stretch_remarks_by : Option SiteValue → StretchReading → List RemarkValue
stretch_remarks_by None b = []
stretch_remarks_by (Some site) b = stretch_remarks site b

-- the remarks on all stretches, one after the other
abbrev pub remarks_behind : List Asset → List StretchReading → List RemarkValue
remarks_behind assets behind = flat_map (λ b. stretch_remarks_by (site_from assets b.reading.flow.asset) b) behind

-- a stretch can be read so, from its first unit on
abbrev pub IsReadStretch : List Asset → StretchValue → StretchReading → Type 0
IsReadStretch assets s b =
    (b.gap ≡ s.gap) × IsReadPartAt (site_from assets s.flow.asset) s.flow b.reading.flow
    × IsReadBy (site_from assets b.reading.flow.asset) b.reading

-- stretch by stretch
abbrev pub AreReadStretches : List Asset → List StretchValue → List StretchReading → Type 0
AreReadStretches assets [] behind = behind ≡ []
AreReadStretches assets (s ∷ stretches) [] = ⊥
AreReadStretches assets (s ∷ stretches) (b ∷ behind) = IsReadStretch assets s b × AreReadStretches assets stretches behind

-- the part of a stretch that is read is some units and an ending, and these are the remarks after others on it, with so many commands allowed
pub record AddsStretch (site : SiteValue) (s : StretchValue) (old new : List RemarkValue) (admitted : ℕ) : Type 0 where
  pub behind : StretchReading
  pub gap : behind.gap ≡ s.gap
  pub is_part : IsReadPart site.first.protocol s.flow behind.reading.flow
  pub are_read : AreRead site behind.reading.flow.client.address [] behind.reading.flow.bytes behind.reading.flow.born behind.reading.judged
      behind.reading.ending
  pub admitted_is : admitted ≡ min (admitted_in behind.reading.judged) (2 ^ 64 - 1)
  pub remarks : new ≡ old ++ stretch_remarks site behind

-- the stretches can be read so, and these are the remarks after others on them, and the commands that are allowed, those of before included
pub record AddsStretches (assets : List Asset) (stretches : List StretchValue) (before : ℕ) (old new : List RemarkValue) (admitted : ℕ) : Type 0 where
  pub behind : List StretchReading
  pub are_read : AreReadStretches assets stretches behind
  pub admitted_is : admitted ≡ commands_in before (map (λ b. b.reading) behind)
  pub remarks : new ≡ old ++ remarks_behind assets behind

-- the flows, each from where it is read on, can be read so, these are the remarks on them, and so many commands are allowed
pub record AreReviewed (assets : List Asset) (flows : List FlowValue) (admitted : ℕ) (remarks : List RemarkValue) : Type 0 where
  pub readings : List Reading
  pub of_flows : AreReadParts assets flows (map (λ r. r.flow) readings)
  pub are_read : AreReadBy assets readings
  pub admitted_is : admitted ≡ commands_in 0 readings
  pub remarks_are : remarks ≡ remarks_on assets readings

-- ---- all of it

-- the remarks on all flows, and those on their other stretches
abbrev pub all_remarks : List Asset → List Reading → List StretchReading → List RemarkValue
all_remarks assets readings behind = remarks_on assets readings ++ remarks_behind assets behind

-- the remark is of the record of this number
abbrev pub is_at : (record_number : ℕ) → RemarkValue → Bool
is_at number r = r.at_record == number

-- remarks told in the order of their records: of each record all, and each as often and in the order in which it stood
pub record AreInOrder (all told : List RemarkValue) : Type 0 where
  pub rising : IsNonDecreasingBy (λ r. r.at_record) told
  pub of_each : (number : ℕ) → filter (is_at number) told ≡ filter (is_at number) all

-- the flows and their other stretches, each from where it is read on, can be read so, and this is all that is objected to in them
pub record IsReviewOf (assets : List Asset) (flows : List FlowValue) (stretches : List StretchValue) (r : Reviewed) : Type 0 where
  pub readings : List Reading
  pub of_flows : AreReadParts assets flows (map (λ x. x.flow) readings)
  pub are_read : AreReadBy assets readings
  pub counts : r.flows ≡ length flows
  pub behind : List StretchReading
  pub are_read_behind : AreReadStretches assets stretches behind
  pub admitted : r.admitted ≡ commands_in (commands_in 0 readings) (map (λ b. b.reading) behind)
  pub remarks : AreInOrder (all_remarks assets readings behind) (map remark_value r.remarks.items)
