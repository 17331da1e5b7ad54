-- The units of a client's bytes to a site, each with its fate: AreRead. The fates are those of a lane, but that no rule is ever spent, and
-- that an APDU of IEC 60870-5-104 is judged by its ASDU alone.
use Rattle.std.specs.Prelude.{◌≡◌, ◌-◌, ◌<◌, ℕ, List, [], ◌∷◌, ◌++◌, drop, slice_index}
use Rattle.cf_apci.specs.Apdu.{Ack, ApduValue, Control, Info}
use Rattle.cf_dnplink.specs.LinkFrame.{FrameValue}
use Rattle.cf_lane.specs.Dnp3.{fate_of_frame, stray_of}
use Rattle.cf_lane.specs.Iec104.{fate_of_asdu}
use Rattle.cf_lane.specs.Item.{Took}
use Rattle.cf_lane.specs.Judged.{Judged}
use Rattle.cf_lane.specs.Modbus.{HasCommandFate}
use Rattle.cf_lane.specs.Parts.{part}
use Rattle.cf_lane.specs.Site.{asset_for, place_for}
use Rattle.cf_lane.specs.Unit.{Adu, Apdu, Frame, SpellsUnit, UnitValue, unit_break}
use Rattle.cf_lane.specs.declared.fate.Fate.{Fate}
use Rattle.cf_policy.specs.Site.{SiteValue}
use Rattle.cf_policy.specs.Verdict.{verdict_of}
use Rattle.cf_policy.specs.declared.Asset.{Asset}
use Rattle.cf_view.specs.Framing.{Begins, BreaksAt, IsPartial}
use Rattle.cf_view.specs.declared.Break.{Break}
use Rattle.cf_lane.specs.declared.fate.Fate.TheVariants as fate
use Rattle.cf_view.specs.declared.Side.TheVariants as side

-- the fate of an APDU whose numbers are not judged
abbrev pub fate_by_asdu : Asset → ℕ → ApduValue → Fate
fate_by_asdu asset client (Info send receive asdu) = fate_of_asdu asset (verdict_of asset client) asdu
fate_by_asdu asset client (Ack receive) = fate.Carried
fate_by_asdu asset client (Control octet) = fate.Carried

-- the fate of a frame after the earlier units
abbrev pub frame_fate : Asset → ℕ → (earlier : List Judged) → FrameValue → Fate
frame_fate asset client earlier x = fate_of_frame asset (verdict_of asset client) side.Client earlier x (stray_of asset side.Client x)

-- the fate of a client's unit by one asset after the earlier ones, by the verdict on each act
abbrev pub HasPlainFate : Asset → ℕ → (earlier : List Judged) → UnitValue → Fate → Type 0
HasPlainFate asset client earlier (Adu a) f = HasCommandFate asset (verdict_of asset client) a f
HasPlainFate asset client earlier (Frame x) f = f ≡ frame_fate asset client earlier x
HasPlainFate asset client earlier (Apdu a) f = f ≡ fate_by_asdu asset client a

-- the fate of a client's unit to a site, by the asset that it is for, after the earlier units that are for that asset
abbrev pub HasSiteFate : SiteValue → ℕ → (earlier : List Judged) → UnitValue → Fate → Type 0
HasSiteFate site client earlier u f =
    HasPlainFate (asset_for site side.Client u) client (part site (place_for site side.Client u) earlier) u f

-- a unit of the client with its fate, and the number of the record that completed it in the place of a moment
abbrev pub completed_in : (record_number : ℕ) → UnitValue → Fate → Judged
completed_in number unit f = record { moment = number; item = Took side.Client unit; fate = f }

-- what follows the units: a proper prefix of one, which may be empty, or an octet that no unit has there and that came with this record
pub data Ending : Type 0 where
  Whole : Ending
  Breaks : (record_number : ℕ) → Break → Ending

-- what follows the last unit: a proper prefix of one, or octets that break, and then the record of the octet that does
abbrev pub HasEnding : SiteValue → (bytes born : List ℕ) → Ending → Type 0
HasEnding site bytes born Whole = IsPartial (SpellsUnit site.first.protocol) bytes
HasEnding site bytes born (Breaks number reason) =
    (place : ℕ) × BreaksAt (SpellsUnit site.first.protocol) bytes place × (reason ≡ unit_break site.first.protocol place)
    × (number ≡ slice_index born place)

-- the units that follow each other in a client's bytes, after earlier ones, and what follows them; each byte came with the record at its
-- place
abbrev pub AreRead : SiteValue → ℕ → (earlier : List Judged) → (bytes born : List ℕ) → List Judged → Ending → Type 0
AreRead site client earlier bytes born [] ending = HasEnding site bytes born ending
AreRead site client earlier bytes born (j ∷ js) ending =
    (unit : UnitValue) × (n : ℕ) × Begins (SpellsUnit site.first.protocol) bytes unit n × (0 < n)
    × (j ≡ completed_in (slice_index born (n - 1)) unit j.fate) × HasSiteFate site client earlier unit j.fate
    × AreRead site client (earlier ++ j ∷ []) (drop n bytes) (drop n born) js ending
