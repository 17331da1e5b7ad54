-- Each asset's units are judged as if no others came.
use Rattle.std.proofs.Common.{◌≡◌, ◌++◌, ◌∷◌, ◌∙◌, ℕ, Bool, true, false, List, [], ap, refl, subst, sym}
use Rattle.std.proofs.lemmas.Bool.{eqb-true}
use Rattle.cf_lane.proofs.Parting.{part_apart, part_mine}
use Rattle.cf_lane.proofs.Sites.{part_alone, zero_for}
use Rattle.cf_lane.specs.Item.{Took}
use Rattle.cf_lane.specs.Judged.{Judged}
use Rattle.cf_lane.specs.Parts.{concerns, part, with_if}
use Rattle.cf_lane.specs.Site.{place_for}
use Rattle.cf_lane.specs.Unit.{UnitValue}
use Rattle.cf_lane.specs.declared.fate.Fate.{Fate}
use Rattle.cf_policy.specs.Site.{SiteValue, alone, asset_of}
use Rattle.cf_policy.specs.declared.Asset.{Asset}
use Rattle.cf_judge.specs.Plain.{HasPlainFate, HasSiteFate}
use Rattle.cf_judge.specs.SiteLaws.{AreJudged, IsJudged, OneAssetFates, PartsFates}
use Rattle.cf_view.specs.declared.Side.TheVariants as side

-- ---- one asset

module _ (asset : Asset) (client : ℕ) (earlier : List Judged) (u : UnitValue) (f : Fate) where
  from_alone : HasSiteFate (alone asset) client earlier u f → HasPlainFate asset client earlier u f
  from_alone has =
      subst (λ js. HasPlainFate asset client js u f) (part_alone asset earlier)
      (subst (λ m. HasPlainFate (asset_of (alone asset) m) client (part (alone asset) m earlier) u f) (zero_for asset side.Client u) has)

  to_alone : HasPlainFate asset client earlier u f → HasSiteFate (alone asset) client earlier u f
  to_alone has =
      subst (λ m. HasPlainFate (asset_of (alone asset) m) client (part (alone asset) m earlier) u f) (sym (zero_for asset side.Client u))
      (subst (λ js. HasPlainFate asset client js u f) (sym (part_alone asset earlier)) has)

pub one_asset_fates : OneAssetFates
one_asset_fates asset client earlier u f = (from_alone asset client earlier u f, to_alone asset client earlier u f)

-- ---- the units for an asset

-- one of them has its fate among these alone
judged_alone : (site : SiteValue) (client k : ℕ) (earlier : List Judged) (j : Judged) (u : UnitValue) → j.item ≡ Took side.Client u → concerns site k j.item ≡ true →
    HasSiteFate site client earlier u j.fate → IsJudged (alone (asset_of site k)) client (part site k earlier) j
judged_alone site client k earlier j u is mine has =
    let here : place_for site side.Client u ≡ k = eqb-true (place_for site side.Client u) k (ap (concerns site k) (sym is) ∙ mine) in
    (u, is, to_alone (asset_of site k) client (part site k earlier) u j.fate (subst (λ m. HasPlainFate (asset_of site m) client (part site m earlier) u j.fate) here has))

-- and one for another asset changes nothing
part_on : (site : SiteValue) (client k : ℕ) (earlier js : List Judged) (j : Judged) (u : UnitValue) → j.item ≡ Took side.Client u → HasSiteFate site client earlier u j.fate →
    AreJudged (alone (asset_of site k)) client (part site k (earlier ++ j ∷ [])) (part site k js) → (mine : Bool) → concerns site k j.item ≡ mine →
    AreJudged (alone (asset_of site k)) client (part site k earlier) (with_if mine j (part site k js))
part_on site client k earlier js j u is has later true e = (
  judged_alone site client k earlier j u is e has,
  subst (λ before. AreJudged (alone (asset_of site k)) client before (part site k js)) (part_mine site k earlier j e) later,
)
part_on site client k earlier js j u is has later false e =
    subst (λ before. AreJudged (alone (asset_of site k)) client before (part site k js)) (part_apart site k earlier j e) later

pub parts_fates : PartsFates
parts_fates site client k earlier bytes born [] ending read = tt
parts_fates site client k earlier bytes born (j ∷ js) ending (unit, n, begins, some, is, has, later) =
    part_on site client k earlier js j unit (ap (λ (x : Judged). x.item) is) has (parts_fates site client k (earlier ++ j ∷ []) _ _ js ending later) (concerns site k j.item) refl
