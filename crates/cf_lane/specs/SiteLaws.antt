-- Steps of the proof: what holds of the items of every site: `PartsFates` and `PartsOutputs`.
use Rattle.cf_apci.specs.Apdu.{Info}
use Rattle.cf_asdu.specs.Asdu.{station_of}
use Rattle.cf_dnplink.specs.LinkFrame.{FrameValue}
use Rattle.cf_lane.specs.Caller.{Caller, caller_at, own}
use Rattle.cf_lane.specs.Dnp3.{is_fragment_unfinished}
use Rattle.cf_lane.specs.Fate.{HasFate, HasUnitFate, HaveFates}
use Rattle.cf_lane.specs.Iec104.{asdu_refused, fate_of_asdu}
use Rattle.cf_lane.specs.Item.{Took, placed}
use Rattle.cf_lane.specs.Judged.{Judged, in_turn}
use Rattle.cf_lane.specs.Log.{command_octets, has_unfinished, is_some_bytes, item_lines, unit_lines}
use Rattle.cf_lane.specs.Modbus.{station_refusal}
use Rattle.cf_lane.specs.Numbers.{info_cut}
use Rattle.cf_lane.specs.Output.{output, outputs, unit_output}
use Rattle.cf_lane.specs.Parts.{concerns, is_apdu, part}
use Rattle.cf_lane.specs.Rates.{says_at}
use Rattle.cf_lane.specs.Site.{find_place, is_for}
use Rattle.cf_lane.specs.Unit.{Adu, Apdu, Frame, UnitValue}
use Rattle.cf_lane.specs.declared.fate.Fate.{Fate}
use Rattle.cf_modbus.specs.Adu.{AduValue}
use Rattle.cf_policy.specs.Site.{SiteValue, alone, asset_of, assets_of}
use Rattle.cf_policy.specs.declared.Asset.{Asset}
use Rattle.cf_view.specs.declared.Endpoint.{Endpoint}
use Rattle.cf_view.specs.declared.Side.{Side}
use Rattle.std.specs.List.{list_any}
use Rattle.std.specs.Prelude.{List, None, [], false, if◌then◌else◌, length, true, ℕ, ◌↔◌, ◌≡◌, ◌≤◌}
use Rattle.cf_audit.specs.declared.line.Why.TheVariants as why
use Rattle.cf_lane.specs.declared.fate.Fate.TheVariants as fate
use Rattle.cf_policy.specs.declared.Decider.TheVariants as decider
use Rattle.cf_policy.specs.declared.Protocol.TheVariants as protocol
use Rattle.cf_view.specs.declared.Reason.TheVariants as reason
use Rattle.cf_view.specs.declared.Side.TheVariants as side

-- none of the items is one of IEC 60870-5-104
abbrev pub HaveNoApdu : List Judged → Type 0
HaveNoApdu js = list_any (λ j. is_apdu j.item) js ≡ false

-- the client as it comes to an asset alone: with what earlier sessions used of that asset's rules
abbrev pub caller_of : (k : ℕ) → Caller → Caller
caller_of k client = caller_at client.address (λ asset. client.before k)

-- the items that concern an asset have the fates that they have in a session of that asset alone
abbrev pub PartsFates : Type 0
PartsFates =
    (site : SiteValue) (client : Caller) (k : ℕ) (earlier js : List Judged) → HaveNoApdu js → HaveFates site client earlier js →
    HaveFates (alone (asset_of site k)) (caller_of k client) (part site k earlier) (part site k js)

-- what the items that concern an asset put into a stream
abbrev pub part_output : SiteValue → (k : ℕ) → Side → List Judged → Judged → List ℕ
part_output site k to earlier j = if concerns site k j.item then output site to earlier j else []

-- it is, one after the other, what they put there in a session of that asset alone
abbrev pub PartsOutputs : Type 0
PartsOutputs =
    (site : SiteValue) (k : ℕ) (to : Side) (earlier js : List Judged) → HaveNoApdu js →
    in_turn (part_output site k to) earlier js ≡ outputs (alone (asset_of site k)) to (part site k earlier) (part site k js)

-- a command for no asset is refused by its station
abbrev pub NobodysAduIsRefused : Type 0
NobodysAduIsRefused =
    (site : SiteValue) (client : Caller) (moment : ℕ) (earlier : List Judged) (a : AduValue) (f : Fate) →
    find_place (is_for side.Client (Adu a)) (assets_of site) ≡ None → HasFate site client earlier (placed moment (Took side.Client (Adu a))) f →
    f ≡ fate.Refused (station_refusal a)

-- a frame for no asset is stray
abbrev pub NobodysFrameIsStray : Type 0
NobodysFrameIsStray =
    (site : SiteValue) (client : Caller) (moment : ℕ) (earlier : List Judged) (s : Side) (x : FrameValue) (f : Fate) →
    find_place (is_for s (Frame x)) (assets_of site) ≡ None → HasFate site client earlier (placed moment (Took s (Frame x))) f →
    f ≡ fate.Stray why.Address

-- of IEC 60870-5-104 the numbers count for the whole session: where they do not cut, a client's ASDU has the fate that the asset that it is
-- for gives it, after that asset's own items
abbrev pub PartsAsdus : Type 0
PartsAsdus =
    (site : SiteValue) (client : Caller) (k : ℕ) (earlier : List Judged) (moment send receive : ℕ) (asdu : List ℕ) (f : Fate) →
    concerns site k (Took side.Client (Apdu (Info send receive asdu))) ≡ true → info_cut side.Client earlier send receive ≡ None →
    HasFate site client earlier (placed moment (Took side.Client (Apdu (Info send receive asdu)))) f →
    f ≡ fate_of_asdu (asset_of site k) (says_at (asset_of site k) (own k client) (part site k earlier) moment) asdu

-- a whole ASDU for no asset is refused by its station
abbrev pub NobodysAsduIsRefused : Type 0
NobodysAsduIsRefused =
    (site : SiteValue) (client : Caller) (moment send receive : ℕ) (earlier : List Judged) (asdu : List ℕ) (f : Fate) →
    find_place (is_for side.Client (Apdu (Info send receive asdu))) (assets_of site) ≡ None → 9 ≤ length asdu →
    info_cut side.Client earlier send receive ≡ None →
    HasFate site client earlier (placed moment (Took side.Client (Apdu (Info send receive asdu)))) f →
    f ≡ asdu_refused decider.Station reason.Station asdu (station_of asdu)

-- where a site has one asset, a unit has the fate that this asset gives it
abbrev pub OneAssetFates : Type 0
OneAssetFates =
    (asset : Asset) (client : Caller) (moment : ℕ) (earlier : List Judged) (s : Side) (u : UnitValue) (f : Fate) →
    HasFate (alone asset) client earlier (placed moment (Took s u)) f ↔ HasUnitFate asset (says_at asset (own 0 client) earlier moment) earlier s
    u f

-- it puts out what this asset has it put out
abbrev pub OneAssetOutputs : Type 0
OneAssetOutputs =
    (asset : Asset) (to : Side) (earlier : List Judged) (j : Judged) (s : Side) (u : UnitValue) → j.item ≡ Took s u →
    output (alone asset) to earlier j ≡ unit_output asset to earlier j s u

-- its lines are those under this asset's name
abbrev pub OneAssetLines : Type 0
OneAssetLines =
    (asset : Asset) (client : Endpoint) (earlier : List Judged) (j : Judged) (s : Side) (u : UnitValue) → j.item ≡ Took s u →
    item_lines (alone asset) client earlier j (Took s u)
    ≡ unit_lines asset client j.moment (is_some_bytes (unit_output asset side.Client earlier j s u)) s (command_octets asset earlier s u) j.fate

-- and what is unfinished at an End of a side is this asset's fragment
abbrev pub OneAssetEnds : Type 0
OneAssetEnds =
    (asset : Asset) (s : Side) (earlier : List Judged) →
    has_unfinished (alone asset) protocol.Dnp3 s earlier ≡ is_fragment_unfinished asset s earlier
