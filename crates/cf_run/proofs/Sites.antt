-- The site that begins at a place of a policy, and the asset at that place.
use Rattle.std.proofs.Common.{◌≡◌, ℕ, zero, suc, ◌<◌, List, [], ◌∷◌, length, Some, option_map, ap, ◌∙◌, sym}
use Rattle.std.specs.Prelude.{slice_get}
use Rattle.std.proofs.lemmas.Option.{slice_get_within}
use Rattle.cf_policy.specs.Site.{SiteValue, site_from}
use Rattle.cf_policy.specs.declared.Asset.{Asset}

-- its first asset is the one at the place
pub first_at : (assets : List Asset) (place : ℕ) (site : SiteValue) → site_from assets place ≡ Some site → slice_get assets place ≡ Some site.first
first_at [] zero site is = cc
first_at [] (suc place) site is = cc
first_at (asset ∷ assets) zero site is = ap (option_map (λ (s : SiteValue). s.first)) is
first_at (asset ∷ assets) (suc place) site is = first_at assets place site is

pub site_inside : (assets : List Asset) (place : ℕ) (site : SiteValue) → site_from assets place ≡ Some site → place < length assets
site_inside assets place site is = slice_get_within assets place site.first (first_at assets place site is)

-- one place has one site
pub same_site : (assets : List Asset) (place : ℕ) (a b : SiteValue) → site_from assets place ≡ Some a → site_from assets place ≡ Some b → a ≡ b
same_site assets place a b p q = let e : Some a ≡ Some b = sym p ∙ q in cc
