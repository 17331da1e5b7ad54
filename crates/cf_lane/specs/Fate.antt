-- The fate of each item of a site's session: `HasFate`.
use Rattle.cf_lane.specs.Caller.{Caller, own}
use Rattle.cf_lane.specs.Rates.{Says, says_at}
use Rattle.cf_lane.specs.Dnp3.{fate_of_frame, stray_of}
use Rattle.cf_lane.specs.Iec104.{fate_of_apdu}
use Rattle.cf_lane.specs.Item.{Broke, Ended, Item, Placed, Took}
use Rattle.cf_lane.specs.Judged.{Judged, place_of}
use Rattle.cf_lane.specs.Modbus.{HasAduFate}
use Rattle.cf_lane.specs.Parts.{bears, part}
use Rattle.cf_lane.specs.Site.{item_place}
use Rattle.cf_lane.specs.Unit.{Adu, Apdu, Frame, UnitValue}
use Rattle.cf_lane.specs.declared.fate.Fate.{Fate}
use Rattle.cf_policy.specs.Site.{SiteValue, asset_of}
use Rattle.cf_policy.specs.Verdict.{IsOneOf}
use Rattle.cf_policy.specs.declared.Asset.{Asset}
use Rattle.cf_policy.specs.declared.Rule.{Rule}
use Rattle.cf_view.specs.declared.Side.{Side}
use Rattle.std.specs.Prelude.{List, [], ℕ, ◌++◌, ◌∷◌, ◌≡◌}
use Rattle.cf_audit.specs.declared.line.CutReason.TheVariants as cut
use Rattle.cf_lane.specs.declared.fate.Fate.TheVariants as fate

-- the fate of a unit of a side after the earlier items, one case a protocol
abbrev pub HasUnitFate : Asset → Says → List Judged → Side → UnitValue → Fate → Type 0
HasUnitFate asset says earlier s (Adu a) f = HasAduFate asset says s a f
HasUnitFate asset says earlier s (Frame x) f = f ≡ fate_of_frame asset says s earlier x (stray_of asset s x)
HasUnitFate asset says earlier s (Apdu x) f = f ≡ fate_of_apdu asset says s earlier x

-- the fate of an item by one asset: a unit is judged, an end is carried, and a break cuts
abbrev pub HasItemFate : Asset → Says → List Judged → Item → Fate → Type 0
HasItemFate asset says earlier (Took s unit) f = HasUnitFate asset says earlier s unit f
HasItemFate asset says earlier (Ended s rest) f = f ≡ fate.Carried
HasItemFate asset says earlier (Broke s because) f = f ≡ fate.Cuts (cut.Framing s because)

-- the fate of an item by the asset of a place: after the earlier items that bear on it, by what that asset's rules say at its moment,
-- which its own commands alone have used
abbrev pub HasFateBy : SiteValue → (k : ℕ) → Caller → List Judged → Placed → Fate → Type 0
HasFateBy site k client earlier p f =
    HasItemFate (asset_of site k) (says_at (asset_of site k) (own k client) (part site k earlier) p.moment)
    (bears p.item earlier (part site k earlier)) p.item f

-- the fate of any item after the earlier ones, by the asset that it is for
abbrev pub HasFate : SiteValue → Caller → List Judged → Placed → Fate → Type 0
HasFate site client earlier p f = HasFateBy site (item_place site p.item) client earlier p f

-- each item has its fate after the earlier ones
abbrev pub HaveFates : SiteValue → Caller → (earlier js : List Judged) → Type 0
HaveFates site client earlier [] = Unit {0}
HaveFates site client earlier (j ∷ js) = HasFate site client earlier (place_of j) j.fate × HaveFates site client (earlier ++ j ∷ []) js

-- a rule that decided is one of the rules
abbrev pub HasOwnDecider : List Rule → Fate → Type 0
HasOwnDecider rules fate.Carried = Unit {0}
HasOwnDecider rules (fate.Admitted used) = Unit {0}
HasOwnDecider rules (fate.Refused refusal) = IsOneOf rules refusal.decider
HasOwnDecider rules (fate.Stray because) = Unit {0}
HasOwnDecider rules fate.Lengthens = Unit {0}
HasOwnDecider rules (fate.Cuts because) = Unit {0}

-- a command is admitted or refused
abbrev pub IsOfCommand : Fate → Type 0
IsOfCommand (fate.Admitted used) = Unit {0}
IsOfCommand (fate.Refused refusal) = Unit {0}
IsOfCommand _ = ⊥
