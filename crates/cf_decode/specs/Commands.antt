-- Beside the proof: that exactly those commands of a client are admitted which the policy allows: `AdmitsWhatIsAllowed`, which stands last.
use Rattle.cf_lane.specs.Caller.{Caller, own}
use Rattle.cf_lane.specs.Rates.{Says, says_at}
use Rattle.cf_apci.specs.Apdu.{Ack, ApduValue, Control, Info}
use Rattle.cf_audit.specs.declared.line.CutReason.{CutReason}
use Rattle.cf_dnpobj.specs.Fragment.{read_octets}
use Rattle.cf_lane.specs.Dnp3.{is_data, is_none, stray_of, whole_now}
use Rattle.cf_lane.specs.Follows.{AreJudged}
use Rattle.cf_lane.specs.History.{Element}
use Rattle.cf_lane.specs.Item.{Broke, Ended, Item, Took}
use Rattle.cf_lane.specs.Judged.{Judged, is_admitted, is_refused}
use Rattle.cf_lane.specs.Numbers.{info_cut}
use Rattle.cf_lane.specs.Parts.{bears, part}
use Rattle.cf_lane.specs.Passes.{IsAllowedAsdu, IsAllowedCommand, IsAllowedFragment, confirms}
use Rattle.cf_lane.specs.Site.{item_place}
use Rattle.cf_lane.specs.Unit.{Adu, Apdu, Frame}
use Rattle.cf_lane.specs.declared.fate.Fate.{Fate}
use Rattle.cf_modbus.specs.Adu.{AduValue}
use Rattle.cf_policy.specs.Site.{SiteValue, asset_of}
use Rattle.cf_policy.specs.declared.Asset.{Asset}
use Rattle.std.specs.Prelude.{Bool, List, None, Option, Some, [], false, if◌then◌else◌, length, nat_lt, true, ℕ, ◌++◌, ◌∷◌, ◌≡◌, ◌⊎◌}
use Rattle.cf_view.specs.declared.Side.TheVariants as side

-- a command: an ADU of Modbus, a fragment of DNP3, or an ASDU of IEC 60870-5-104
pub data Command : Type 0 where
  OfModbus : AduValue → Command
  OfDnp3 : (octets : List ℕ) → Command
  OfIec104 : (asdu : List ℕ) → Command

-- a command whose station is the asset's, whose form is read, and of which each act is allowed, by a rule that is not spent
abbrev pub Allows : Asset → Says → Command → Type 0
Allows asset says (OfModbus a) = IsAllowedCommand asset says a
Allows asset says (OfDnp3 octets) = IsAllowedFragment asset says octets
Allows asset says (OfIec104 asdu) = IsAllowedAsdu asset says asdu

-- a fragment is a command, but for one that is too short to be any and for a confirmation
abbrev pub fragment_commands : (short : Bool) → List ℕ → List Command
fragment_commands true octets = []
fragment_commands false octets = if confirms (read_octets octets) then [] else OfDnp3 octets ∷ []

abbrev pub whole_commands : List (List ℕ) → List Command
whole_commands [] = []
whole_commands (octets ∷ none) = fragment_commands (nat_lt (length octets) 2) octets

-- a data frame that is served brings the fragment that it completes
abbrev pub frame_commands : (served with_data : Bool) → List (List ℕ) → List Command
frame_commands true true whole = whole_commands whole
frame_commands true false whole = []
frame_commands false with_data whole = []

-- an I frame whose numbers are right brings an ASDU
abbrev pub info_commands : Option CutReason → List ℕ → List Command
info_commands None asdu = OfIec104 asdu ∷ []
info_commands (Some because) asdu = []

abbrev pub apdu_commands : List Judged → ApduValue → List Command
apdu_commands earlier (Info send receive asdu) = info_commands (info_cut side.Client earlier send receive) asdu
apdu_commands earlier (Ack receive) = []
apdu_commands earlier (Control octet) = []

-- the command that an item brings an asset, after the earlier ones, if one
abbrev pub commands_by : Asset → List Judged → Item → List Command
commands_by asset earlier (Took side.Client (Adu a)) = OfModbus a ∷ []
commands_by asset earlier (Took side.Client (Frame x)) =
    frame_commands (is_none (stray_of asset side.Client x)) (is_data x) (whole_now asset side.Client earlier x)
commands_by asset earlier (Took side.Client (Apdu a)) = apdu_commands earlier a
commands_by asset earlier (Took side.Controller u) = []
commands_by asset earlier (Ended s n) = []
commands_by asset earlier (Broke s because) = []

-- a command is admitted where it is allowed, and refused where it is not; what brings none is neither
abbrev pub IsDecided : Asset → Says → List Command → Fate → Type 0
IsDecided asset says [] f = (is_admitted f ≡ false) × (is_refused f ≡ false)
IsDecided asset says (c ∷ none) f =
    ((is_admitted f ≡ true) × Allows asset says c) ⊎ ((is_refused f ≡ true) × (Allows asset says c → ⊥))

-- an item is decided so by the rules of the asset of a place, at its moment, after the earlier items that bear on it
abbrev pub IsDecidedBy : SiteValue → (k : ℕ) → Caller → List Judged → Judged → Type 0
IsDecidedBy site k client earlier j =
    IsDecided (asset_of site k) (says_at (asset_of site k) (own k client) (part site k earlier) j.moment)
    (commands_by (asset_of site k) (bears j.item earlier (part site k earlier)) j.item) j.fate

-- each item of a history is decided so by the asset that it is for
abbrev pub AdmitsWhatIsAllowed : Type 0
AdmitsWhatIsAllowed =
    (site : SiteValue) (client : Caller) (h : List Element) (earlier later : List Judged) (j : Judged) →
    AreJudged site client h (earlier ++ j ∷ later) → IsDecidedBy site (item_place site j.item) client earlier j
