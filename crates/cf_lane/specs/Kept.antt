-- Steps of the proof: what a lane keeps for its protocol, `KnowsWire`, and how it stands for the earlier items, `IsWireOf`.
use Rattle.cf_dnptrans.specs.AssemblyValue.{AssemblyValue, IsAssemblyOf}
use Rattle.cf_lane.specs.Dnp3.{segments_into, segments_of}
use Rattle.cf_lane.specs.Judged.{Judged}
use Rattle.cf_lane.specs.Numbers.{events_of}
use Rattle.cf_lane.specs.Parts.{part}
use Rattle.cf_lane.specs.declared.wire.Fragments.{Fragments}
use Rattle.cf_lane.specs.declared.wire.Wire.{Wire}
use Rattle.cf_policy.specs.Site.{SiteValue, asset_of}
use Rattle.cf_policy.specs.declared.Asset.{Asset}
use Rattle.cf_policy.specs.declared.Protocol.{Protocol}
use Rattle.cf_renumber.specs.Numbers.{IsNumbersOf}
use Rattle.cf_view.specs.declared.Side.{Side}
use Rattle.std.specs.List.{sum_by}
use Rattle.std.specs.Prelude.{List, [], None, Some, if◌then◌else◌, length, slice_get, ℕ, ◌%◌, ◌*◌, ◌++◌, ◌+◌, ◌/◌, ◌<◌, ◌∷◌, ◌≡◌}
use Rattle.cf_policy.specs.declared.Protocol.TheVariants as protocol
use Rattle.cf_view.specs.declared.Side.TheVariants as side
use Rattle.cf_lane.specs.declared.wire.Wire.TheVariants as wire

-- the fragments are put together from the segments of their sides, and the sequences go on after the segments that were sent
pub record KnowsFragments (asset : Asset) (f : Fragments) (earlier : List Judged) : Type 0 where
  pub client : IsAssemblyOf f.client (segments_of asset side.Client earlier)
  pub controller : IsAssemblyOf f.controller (segments_of asset side.Controller earlier)
  pub to_client : f.to_client ≡ segments_into asset side.Client earlier % 64
  pub to_controller : f.to_controller ≡ segments_into asset side.Controller earlier % 64

-- the fragments of each asset of a site stand for the items that concern it
abbrev pub KnowAllFragments : SiteValue → List Fragments → List Judged → Type 0
KnowAllFragments site all earlier =
    (k : ℕ) (f : Fragments) → slice_get all k ≡ Some f → KnowsFragments (asset_of site k) f (part site k earlier)

-- what is kept stands for the earlier items: one case a protocol
abbrev pub KnowsWire : SiteValue → Wire → List Judged → Type 0
KnowsWire site wire.Modbus earlier = Unit {0}
KnowsWire site (wire.Dnp3 all) earlier = KnowAllFragments site all earlier
KnowsWire site (wire.Iec104 numbers) earlier = IsNumbersOf numbers (events_of earlier)

-- the fragment of a side
abbrev pub of_side : Side → Fragments → AssemblyValue
of_side side.Client f = f.client
of_side side.Controller f = f.controller

-- each assembly is one of segments, and each sequence is one
pub record AreFragments (f : Fragments) : Type 0 where
  pub client : (segments : List (List ℕ)) × IsAssemblyOf f.client segments
  pub controller : (segments : List (List ℕ)) × IsAssemblyOf f.controller segments
  pub to_client : f.to_client < 64
  pub to_controller : f.to_controller < 64

-- those of a side are put together from these segments, of each asset
abbrev pub StandOf : Side → List Fragments → (segments : ℕ → List (List ℕ)) → Type 0
StandOf s all segments = (k : ℕ) (f : Fragments) → slice_get all k ≡ Some f → IsAssemblyOf (of_side s f) (segments k)

-- fragments of which nothing has come
pub record IsNewFragments (f : Fragments) : Type 0 where
  pub client : IsAssemblyOf f.client []
  pub controller : IsAssemblyOf f.controller []
  pub to_client : f.to_client ≡ 0
  pub to_controller : f.to_controller ≡ 0

-- the same of so many assets
pub record AreNewFragments (count : ℕ) (all : List Fragments) : Type 0 where
  pub one_each : length all ≡ count
  pub each : (k : ℕ) (f : Fragments) → slice_get all k ≡ Some f → IsNewFragments f

-- fragments of which nothing has come stand behind others
pub record AddsNewFragments (old new : List Fragments) : Type 0 where
  pub fragments : Fragments
  pub added : new ≡ old ++ fragments ∷ []
  pub nothing : IsNewFragments fragments

-- fragments of so many assets
pub record AreAllFragments (count : ℕ) (all : List Fragments) : Type 0 where
  pub one_each : length all ≡ count
  pub each : (k : ℕ) (f : Fragments) → slice_get all k ≡ Some f → AreFragments f

-- what is kept is what the protocol needs for so many assets, and no frame of a client waits to be judged
abbrev pub IsWireOf : Protocol → (count : ℕ) → Wire → Type 0
IsWireOf protocol.Modbus count wire.Modbus = Unit {0}
IsWireOf protocol.Dnp3 count (wire.Dnp3 all) = AreAllFragments count all
IsWireOf protocol.Iec104 count (wire.Iec104 numbers) = numbers.owed ≡ None
IsWireOf _ count _ = ⊥

-- the most octets that a fragment that is begun adds to the frames that it goes on in: 292 octets carry 249
abbrev pub owed_octets : AssemblyValue → ℕ
owed_octets a = if a.begun then 5 * length a.octets / 4 else 0

-- those of an asset's two fragments
abbrev pub owed_by : Fragments → ℕ
owed_by f = owed_octets f.client + owed_octets f.controller

-- those of all assets
abbrev pub wire_debt : Wire → ℕ
wire_debt wire.Modbus = 0
wire_debt (wire.Dnp3 all) = sum_by owed_by all
wire_debt (wire.Iec104 numbers) = 0
