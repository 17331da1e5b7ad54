-- Steps of the proof: the bytes of a flow, read as they come: SoFar and IsFollowed.
use Rattle.std.specs.Prelude.{◌≡◌, ◌+◌, ◌-◌, ◌<◌, ◌^◌, ◌≤◌, ℕ, Bool, true, List, [], ◌++◌, All, drop, length, map, min, Option, None, Some}
use Rattle.cf_judge.specs.Front.{IsReaderOf}
use Rattle.cf_judge.specs.Objections.{admitted_in}
use Rattle.cf_judge.specs.Plain.{AreRead, Breaks, Ending}
use Rattle.cf_judge.specs.declared.front.Reader.{Reader}
use Rattle.cf_lane.specs.Judged.{Judged, in_turn}
use Rattle.cf_lane.specs.Unit.{SpellsUnit}
use Rattle.cf_policy.specs.Site.{SiteValue}
use Rattle.cf_policy.specs.declared.Protocol.{Protocol}
use Rattle.cf_view.specs.Framing.{IsPartial}
use Rattle.cf_view.specs.declared.Break.{Break}
use Rattle.cf_watch.specs.FlowValue.{FlowValue, StretchValue}
use Rattle.cf_watch.specs.Trail.{Heard}
use Rattle.cf_watch.specs.declared.Conflict.{Conflict}
use Rattle.cf_watch.specs.declared.Flow.{Flow}
use Rattle.cf_review.specs.FirstUnit.{UnitBegins, from_place}
use Rattle.cf_review.specs.Remark.{RemarkValue, remark_value}
use Rattle.cf_review.specs.Review.{end_remarks, unit_remarks}
use Rattle.cf_review.specs.declared.following.Following.{Following}
use Rattle.cf_review.specs.declared.following.Stage.{Stage}
use Rattle.cf_review.specs.declared.following.Stage.TheVariants as stage
use Rattle.cf_review.specs.declared.remark.Remark.{Remark}

-- with these units in front those from a place on are those of the flow, also where more bytes come; the remarks on these units stand after
-- some others
pub record SoFar (site : SiteValue) (f : FlowValue) (start : List RemarkValue) (at : ℕ) (r : Reader) (admitted : ℕ) (remarks : List RemarkValue) : Type 0 where
  pub units : List Judged
  pub leads : (more more_born : List ℕ) (js : List Judged) (ending : Ending)
      → AreRead site f.client.address units (drop at f.bytes ++ more) (drop at f.born ++ more_born) js ending
      → AreRead site f.client.address [] (f.bytes ++ more) (f.born ++ more_born) (units ++ js) ending
  pub reader : IsReaderOf site f.client.address units r
  pub admitted_is : admitted ≡ min (admitted_in units) (2 ^ 64 - 1)
  pub told : remarks ≡ start ++ in_turn (unit_remarks site f) [] units
  pub inside : at ≤ length f.bytes
  pub sizes : length f.born ≡ length f.bytes

-- the bytes from a place on are a proper prefix of a unit
abbrev pub Waits : SiteValue → FlowValue → (at : ℕ) → Type 0
Waits site f at = IsPartial (SpellsUnit site.first.protocol) (drop at f.bytes)

-- the bytes break behind some units, also where more bytes come
pub record HasBroken (site : SiteValue) (f : FlowValue) (start : List RemarkValue) (admitted : ℕ) (remarks : List RemarkValue) : Type 0 where
  pub units : List Judged
  pub number : ℕ
  pub reason : Break
  pub breaks : (more more_born : List ℕ)
      → AreRead site f.client.address [] (f.bytes ++ more) (f.born ++ more_born) units (Breaks number reason)
  pub admitted_is : admitted ≡ min (admitted_in units) (2 ^ 64 - 1)
  pub told : remarks ≡ start ++ (in_turn (unit_remarks site f) [] units ++ end_remarks f (Breaks number reason))

-- ---- a flow whose units are read as they come, from its first unit on

-- no unit begins at a place of a text before this one, also where more bytes come
pub record IsSearched (protocol : Protocol) (bytes : List ℕ) (at : ℕ) : Type 0 where
  pub none_before : (earlier : ℕ) → earlier < at → (more : List ℕ) → UnitBegins protocol (drop earlier bytes ++ more) → ⊥
  pub inside : at ≤ length bytes

-- so far a flow that begins amid its stream was searched for its first unit; one that begins with its SYN needs no search
abbrev pub IsSearchedBy : Protocol → (midstream : Option ℕ) → List ℕ → (at : ℕ) → Type 0
IsSearchedBy protocol None bytes at = at ≡ 0
IsSearchedBy protocol (Some number) bytes at = IsSearched protocol bytes at

-- and it stands there
abbrev pub HasUnitBy : Protocol → (midstream : Option ℕ) → List ℕ → (at : ℕ) → Type 0
HasUnitBy protocol None bytes at = Unit {0}
HasUnitBy protocol (Some number) bytes at = UnitBegins protocol (drop at bytes)

-- a flow is read from this place on, whatever bytes come later: from its first byte where it begins with its SYN, else from its first unit
pub record StartsAt (protocol : Protocol) (f : FlowValue) (start : ℕ) : Type 0 where
  pub searched : IsSearchedBy protocol f.midstream f.bytes start
  pub unit : HasUnitBy protocol f.midstream f.bytes start

-- units were read from the start of a flow up to a place
pub record HasRead (site : SiteValue) (f : FlowValue) (at : ℕ) (r : Reader) (admitted : ℕ) (remarks : List RemarkValue) : Type 0 where
  pub start : ℕ
  pub starts : StartsAt site.first.protocol f start
  pub behind : start ≤ at
  pub so_far : SoFar site (from_place start f) [] (at - start) r admitted remarks

-- a flow breaks behind some units from its start on
pub record BreaksBehind (site : SiteValue) (f : FlowValue) (admitted : ℕ) (remarks : List RemarkValue) : Type 0 where
  pub start : ℕ
  pub starts : StartsAt site.first.protocol f start
  pub broken : HasBroken site (from_place start f) [] admitted remarks

-- how far the reading of a flow has come, which so many of its bytes are kept no more; nothing is said of what follows the units
abbrev pub IsStaged : SiteValue → Heard → Stage → (at admitted : ℕ) → List RemarkValue → Type 0
IsStaged site h stage.Waits at admitted remarks =
    (h.base ≡ 0) × IsSearchedBy site.first.protocol h.value.midstream h.value.bytes at × (admitted ≡ 0) × (remarks ≡ [])
IsStaged site h (stage.Reads r) at admitted remarks = HasRead site h.value (h.base + at) r admitted remarks
IsStaged site h stage.Broke at admitted remarks = BreaksBehind site h.value admitted remarks

-- what follows the units that were read is a proper prefix of one
abbrev pub IsAtRest : SiteValue → Heard → Stage → (at : ℕ) → Type 0
IsAtRest site h stage.Waits at = Unit {0}
IsAtRest site h (stage.Reads r) at = Waits site h.value (h.base + at)
IsAtRest site h stage.Broke at = Unit {0}

abbrev pub IsBegun : SiteValue → Heard → Following → Type 0
IsBegun site h g = IsStaged site h g.stage g.at g.admitted (map remark_value g.remarks.items)

-- and of a flow to the site at its place
abbrev pub IsFollowed : Option SiteValue → Heard → Following → Type 0
IsFollowed None h g = ⊥
IsFollowed (Some site) h g = IsBegun site h g × IsAtRest site h g.stage g.at

-- the bytes that are kept of a flow are those behind the ones that are kept no more
pub record IsTail (h : Heard) (f : Flow) : Type 0 where
  pub bytes : f.bytes.items ≡ drop h.base h.value.bytes
  pub born : f.born ≡ drop h.base h.value.born
  pub inside : h.base ≤ length h.value.bytes
  pub sizes : length h.value.born ≡ length h.value.bytes
  pub client : f.client ≡ h.value.client
  pub asset : f.asset ≡ h.value.asset
  pub midstream : f.midstream ≡ h.value.midstream
  pub conflict : f.conflict ≡ h.value.conflict

-- ---- the records that remarks are of

-- the records of the bytes that are not read yet
abbrev pub unread : Stage → (at : ℕ) → Flow → List ℕ
unread stage.Waits at f = f.born
unread (stage.Reads r) at f = drop at f.born
unread stage.Broke at f = []

-- of each record that a remark on the flow is of, or may be of, this holds
pub record AllTold (known : ℕ → Bool) (f : Flow) (g : Following) : Type 0 where
  pub remarks : All (λ r. known r.at_record ≡ true) (map remark_value g.remarks.items)
  pub unread : All (λ n. known n ≡ true) (unread g.stage g.at f)
  pub midstream : (number : ℕ) → f.midstream ≡ Some number → known number ≡ true
  pub conflict : (c : Conflict) → f.conflict ≡ Some c → known c.at_record ≡ true

-- the bytes of a flow from a place on are those that are kept of it from another place on
pub record IsPartOf (f : FlowValue) (place : ℕ) (kept : Flow) (at : ℕ) : Type 0 where
  pub bytes : drop place f.bytes ≡ drop at kept.bytes.items
  pub born : drop place f.born ≡ drop at kept.born
  pub client : f.client ≡ kept.client
  pub asset : f.asset ≡ kept.asset

-- of each record that a remark on a stretch may be of, this holds
pub record IsToldOf (known : ℕ → Bool) (s : StretchValue) : Type 0 where
  pub bytes : All (λ n. known n ≡ true) s.flow.born
  pub first : (number : ℕ) → s.flow.midstream ≡ Some number → known number ≡ true

abbrev pub AreToldOf : (known : ℕ → Bool) → List StretchValue → Type 0
AreToldOf known stretches = All (IsToldOf known) stretches

-- some remarks of a record were added behind the others
pub record AddsOf (number : ℕ) (old new : List Remark) : Type 0 where
  pub more : List Remark
  pub are : new ≡ old ++ more
  pub each : All (λ (r : Remark). r.at_record ≡ number) more
