-- What sites have to do with what is judged: OneAssetFates, and that each asset's units are judged as if no others came: PartsFates.
use Rattle.std.specs.Prelude.{◌≡◌, ◌↔◌, ℕ, List, [], ◌∷◌, ◌++◌}
use Rattle.cf_lane.specs.Item.{Took}
use Rattle.cf_lane.specs.Judged.{Judged}
use Rattle.cf_lane.specs.Parts.{part}
use Rattle.cf_lane.specs.Unit.{UnitValue}
use Rattle.cf_lane.specs.declared.fate.Fate.{Fate}
use Rattle.cf_policy.specs.Site.{SiteValue, alone, asset_of}
use Rattle.cf_policy.specs.declared.Asset.{Asset}
use Rattle.cf_judge.specs.Plain.{AreRead, Ending, HasPlainFate, HasSiteFate}
use Rattle.cf_view.specs.declared.Side.TheVariants as side

-- a unit of the client has its fate after earlier ones
abbrev pub IsJudged : SiteValue → ℕ → (earlier : List Judged) → Judged → Type 0
IsJudged site client earlier j = (u : UnitValue) × (j.item ≡ Took side.Client u) × HasSiteFate site client earlier u j.fate

-- so do units one after the other
abbrev pub AreJudged : SiteValue → ℕ → (earlier : List Judged) → List Judged → Type 0
AreJudged site client earlier [] = Unit {0}
AreJudged site client earlier (j ∷ js) = IsJudged site client earlier j × AreJudged site client (earlier ++ j ∷ []) js

-- a site of one asset gives a unit the fate that this asset gives it after all the earlier ones
abbrev pub OneAssetFates : Type 0
OneAssetFates =
    (asset : Asset) (client : ℕ) (earlier : List Judged) (u : UnitValue) (f : Fate) → HasSiteFate (alone asset) client earlier u f
    ↔ HasPlainFate asset client earlier u f

-- of the units that are read, those for an asset have the fates that they have in a stream of these alone to this asset alone
abbrev pub PartsFates : Type 0
PartsFates =
    (site : SiteValue) (client k : ℕ) (earlier : List Judged) (bytes born : List ℕ) (js : List Judged) (ending : Ending)
    → AreRead site client earlier bytes born js ending
    → AreJudged (alone (asset_of site k)) client (part site k earlier) (part site k js)
