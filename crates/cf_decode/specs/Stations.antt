-- What the units with the station of one asset make: `StationsDecode`, which stands last.
--
-- Behind one address and port several stations read one stream, and each takes the units that have its station: an ADU of Modbus its
-- unit identifier, a frame of DNP3 its two addresses, an ASDU of IEC 60870-5-104 its common address. Of any beginning of the stream
-- these units make the first of the commands that the rules of that asset admit, of those that the client sent for it, in their order.
-- Its rules alone decide, and what its own commands used of them.
use Rattle.cf_apci.specs.Apdu.{Ack, Control, Info}
use Rattle.cf_decode.specs.Commands.{Allows, Command, OfIec104, OfModbus, commands_by, fragment_commands}
use Rattle.cf_decode.specs.Received.{received}
use Rattle.cf_decode.specs.Units.{Fragment, Passed, Whole}
use Rattle.cf_lane.specs.Caller.{Caller, own}
use Rattle.cf_lane.specs.Follows.{AreJudged}
use Rattle.cf_lane.specs.History.{Element}
use Rattle.cf_lane.specs.Judged.{Judged}
use Rattle.cf_lane.specs.Output.{outputs}
use Rattle.cf_lane.specs.Parts.{bears, concerns, part}
use Rattle.cf_lane.specs.Rates.{Says, says_at}
use Rattle.cf_lane.specs.Site.{is_for}
use Rattle.cf_lane.specs.Unit.{Adu, Apdu, Frame, SpellsUnit, UnitValue}
use Rattle.cf_policy.specs.Site.{SiteValue, asset_of, assets_of}
use Rattle.cf_policy.specs.declared.Asset.{Asset}
use Rattle.cf_view.specs.Units.{IsUnitsThenRest}
use Rattle.std.specs.List.{filter, flat_map}
use Rattle.std.specs.Prelude.{AllPairs, List, [], if◌then◌else◌, length, nat_lt, ℕ, ◌++◌, ◌<◌, ◌∷◌, ◌≡◌, ◌≢◌, ◌⊎◌}
use Rattle.cf_view.specs.declared.Side.TheVariants as side

-- the units with the station of an asset, for DNP3 with its station and its master
abbrev pub units_to : Asset → List UnitValue → List UnitValue
units_to asset units = filter (λ u. is_for side.Client u asset) units

-- the command that went to the controller, but for what is none: link status frames, confirmations, S and U frames
abbrev pub command_in : Passed → List Command
command_in (Whole (Adu a)) = OfModbus a ∷ []
command_in (Whole (Frame x)) = []
command_in (Whole (Apdu (Info send receive asdu))) = OfIec104 asdu ∷ []
command_in (Whole (Apdu (Ack receive))) = []
command_in (Whole (Apdu (Control octet))) = []
command_in (Fragment to octets) = fragment_commands (nat_lt (length octets) 2) octets

-- the commands that the units with its station make for an asset
abbrev pub commands_to : Asset → List UnitValue → List Command
commands_to asset units = flat_map command_in (received [] (units_to asset units))

-- the command for the asset of a place that an item brings, after the earlier ones, if one
abbrev pub own_commands : SiteValue → (k : ℕ) → List Judged → Judged → List Command
own_commands site k earlier j =
    if concerns site k j.item then commands_by (asset_of site k) (bears j.item earlier (part site k earlier)) j.item else []

-- a command is the first of these, before the later ones, exactly where the rules allow it
abbrev pub AdmitsNext : Asset → Says → (brought : List Command) → (later : List Command → Type 0) → List Command → Type 0
AdmitsNext asset says [] later commands = later commands
AdmitsNext asset says (c ∷ none) later commands =
    (Allows asset says c × ((rest : List Command) × (commands ≡ c ∷ rest) × later rest)) ⊎ ((Allows asset says c → ⊥) × later commands)

-- what the rules of the asset of a place admit of the client's commands for it, in order: each is decided at its moment, after what the
-- earlier ones for the same asset used
abbrev pub Admits : SiteValue → (k : ℕ) → Caller → (earlier js : List Judged) → List Command → Type 0
Admits site k client earlier [] commands = commands ≡ []
Admits site k client earlier (j ∷ js) commands =
    AdmitsNext (asset_of site k) (says_at (asset_of site k) (own k client) (part site k earlier) j.moment) (own_commands site k earlier j)
    (Admits site k client (earlier ++ j ∷ []) js) commands

-- octets decode, for the asset of a place, to a beginning of what its rules admit: however they are read as units and a rest, which is in
-- one way, those with its station make the first of its admitted commands
abbrev pub DecodesFor : SiteValue → (k : ℕ) → Caller → List Judged → (bytes : List ℕ) → Type 0
DecodesFor site k client js bytes =
    (units : List UnitValue) (rest : List ℕ) → IsUnitsThenRest (SpellsUnit site.first.protocol) units bytes rest →
    (following : List Command) × Admits site k client [] js (commands_to (asset_of site k) units ++ following)

-- they decode so for each asset
abbrev pub DecodesByStation : SiteValue → Caller → List Judged → (bytes : List ℕ) → Type 0
DecodesByStation site client js bytes = (k : ℕ) → k < length (assets_of site) → DecodesFor site k client js bytes

-- no two assets of a site have one station
abbrev pub HasOwnStations : SiteValue → Type 0
HasOwnStations site = AllPairs (λ a b. a.station ≢ b.station) (assets_of site)

-- any beginning of the stream to the controller decodes, for each asset, to a beginning of what its rules admit
abbrev pub StationsDecode : Type 0
StationsDecode =
    (site : SiteValue) (client : Caller) (h : List Element) (js : List Judged) (bytes more : List ℕ) → HasOwnStations site →
    AreJudged site client h js → outputs site side.Controller [] js ≡ bytes ++ more → DecodesByStation site client js bytes
