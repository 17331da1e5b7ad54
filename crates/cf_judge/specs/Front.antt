-- Steps of the proof: what a reader of a client's bytes keeps, `IsReaderOf`, and what it answers about the unit at their front,
-- `IsFrontOf`.
use Rattle.std.specs.Prelude.{◌≡◌, ◌<◌, ℕ, true, List, [], ◌∷◌, ◌++◌, Some, length, set, slice_get}
use Rattle.cf_dnplink.specs.LinkFrame.{FrameValue}
use Rattle.cf_dnptrans.specs.AssemblyValue.{IsAssemblyOf}
use Rattle.cf_lane.specs.Dnp3.{segments_of}
use Rattle.cf_lane.specs.Judged.{Judged}
use Rattle.cf_lane.specs.Parts.{part}
use Rattle.cf_lane.specs.Site.{place_for}
use Rattle.cf_lane.specs.Unit.{SpellsUnit, UnitValue, frame_unit, unit_break}
use Rattle.cf_lane.specs.declared.fate.Fate.{Fate}
use Rattle.cf_lane.specs.declared.fate.Refusal.{Refusal}
use Rattle.cf_policy.specs.Index.{IsIndexOf}
use Rattle.cf_policy.specs.Site.{SiteValue, asset_of, assets_of}
use Rattle.cf_policy.specs.declared.Asset.{Asset}
use Rattle.cf_policy.specs.declared.Protocol.TheVariants as protocol
use Rattle.cf_view.specs.Framing.{Begins, BreaksAt, IsPartial}
use Rattle.cf_view.specs.declared.Side.TheVariants as side
use Rattle.cf_judge.specs.Ruling.{ruling_of}
use Rattle.cf_judge.specs.Plain.{HasSiteFate, completed_in, frame_fate}
use Rattle.cf_judge.specs.declared.ruling.Ruling.{Ruling}
use Rattle.cf_judge.specs.declared.ruling.Ruling.TheVariants as ruling
use Rattle.cf_judge.specs.declared.front.Front.{Front}
use Rattle.cf_judge.specs.declared.front.Front.TheVariants as front
use Rattle.cf_judge.specs.declared.front.OwnReader.{OwnReader}
use Rattle.cf_judge.specs.declared.front.Reader.{Reader}

-- what is kept of an asset: the index is that of the client, and the fragment is that of the earlier units
pub record IsOwnReaderOf (asset : Asset) (client : ℕ) (earlier : List Judged) (o : OwnReader) : Type 0 where
  pub index : IsIndexOf asset client o.index
  pub assembly : IsAssemblyOf o.assembly (segments_of asset side.Client earlier)

-- what is kept of each asset of a site, by its place, before its first unit
abbrev pub AreNewReaders : SiteValue → (client : ℕ) → List OwnReader → Type 0
AreNewReaders site client all = (k : ℕ) (o : OwnReader) → slice_get all k ≡ Some o → IsOwnReaderOf (asset_of site k) client [] o

-- a frame to an asset was put to what is kept of it, whatever came before, and counts for this
pub record JudgesFrame (asset : Asset) (x : FrameValue) (old new : OwnReader) (found : Ruling) : Type 0 where
  pub counts : (client : ℕ) (earlier : List Judged) → IsOwnReaderOf asset client earlier old
      → found ≡ ruling_of (frame_fate asset client earlier x)
  pub whole : (refusal : Refusal) → found ≡ ruling.Refused refusal → new.assembly.whole ≡ true
  pub goes_on : (client : ℕ) (earlier : List Judged) (number : ℕ) (f : Fate) → IsOwnReaderOf asset client earlier old
      → IsOwnReaderOf asset client (earlier ++ completed_in number (frame_unit x) f ∷ []) new

-- it was put to that of the asset of a place, and those of the other assets stay
pub record JudgesFrameAt (asset : Asset) (x : FrameValue) (place : ℕ) (before after : List OwnReader) (found : Ruling) : Type 0 where
  pub was : OwnReader
  pub now : OwnReader
  pub at : slice_get before place ≡ Some was
  pub set_is : after ≡ set before place now
  pub judges : JudgesFrame asset x was now found

-- a reader keeps that of each asset of its site, after the earlier units that are for the asset
pub record IsReaderOf (site : SiteValue) (client : ℕ) (earlier : List Judged) (r : Reader) : Type 0 where
  pub one_each : length r.own.items ≡ length (assets_of site)
  pub each : (k : ℕ) (o : OwnReader) → slice_get r.own.items k ≡ Some o → IsOwnReaderOf (asset_of site k) client (part site k earlier) o

-- it keeps that of as many assets as the site has
abbrev pub IsReaderFor : SiteValue → Reader → Type 0
IsReaderFor site r = length r.own.items ≡ length (assets_of site)

-- the fragment of an asset is whole, for DNP3
abbrev pub HasWhole : SiteValue → (place : ℕ) → Reader → Type 0
HasWhole site place r =
    site.first.protocol ≡ protocol.Dnp3 → (o : OwnReader) × (slice_get r.own.items place ≡ Some o) × (o.assembly.whole ≡ true)

-- a unit that counts for this, for the asset of a place, after which the reader goes on
pub record TakesUnit
    (site : SiteValue) (client : ℕ) (earlier : List Judged) (bytes : List ℕ) (found : Ruling) (place used : ℕ) (new : Reader) : Type 0 where
  pub unit : UnitValue
  pub begins : Begins (SpellsUnit site.first.protocol) bytes unit used
  pub some : 0 < used
  pub is_for : place ≡ place_for site side.Client unit
  pub inside : place < length (assets_of site)
  pub fate : Fate
  pub has_fate : HasSiteFate site client earlier unit fate
  pub counts : found ≡ ruling_of fate
  pub whole : (refusal : Refusal) → found ≡ ruling.Refused refusal → HasWhole site place new
  pub goes_on : (number : ℕ) → IsReaderOf site client (earlier ++ completed_in number unit fate ∷ []) new

abbrev pub IsFrontOf : SiteValue → ℕ → (earlier : List Judged) → (bytes : List ℕ) → (new : Reader) → Front → Type 0
IsFrontOf site client earlier bytes new (front.Took found place used) = TakesUnit site client earlier bytes found place used new
IsFrontOf site client earlier bytes new front.Rest = IsPartial (SpellsUnit site.first.protocol) bytes
IsFrontOf site client earlier bytes new (front.Broken reason place) =
    BreaksAt (SpellsUnit site.first.protocol) bytes place × (reason ≡ unit_break site.first.protocol place)
