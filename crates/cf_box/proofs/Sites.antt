-- The site of a name, and the asset of that name.
use Rattle.std.proofs.Common.{◌≡◌, ◌∙◌, ℕ, Bool, true, false, cond, List, [], ◌∷◌, Option, Some, None, ap, refl, subst, sym}
use Rattle.std.specs.Prelude.{IfNone, bytes_eq, find, option_and_then, option_map}
use Rattle.std.proofs.lemmas.Bool.{true≢false}
use Rattle.std.proofs.lemmas.Option.{none-some, option_and_then_some, same_Some}
use Rattle.cf_policy.proofs.SiteLaws.{same_self, sites_begin}
use Rattle.cf_policy.specs.AtEndpoint.{asset_at}
use Rattle.cf_policy.specs.Site.{SiteValue, site_at}
use Rattle.cf_policy.specs.declared.Asset.{Asset}
use Rattle.cf_policy.specs.declared.Policy.{Policy}
use Rattle.cf_view.specs.Endpoints.{same_endpoint}
use Rattle.cf_box.specs.PolicyFile.{asset_named, site_named}

-- a name that has a site is that of an asset
pub asset_of_named : (name : List ℕ) (p : Policy) (site : SiteValue) → site_named name p ≡ Some site → (asset : Asset) × (asset_named name p ≡ Some asset)
asset_of_named name p site is =
    option_and_then_some (λ (a : Asset). site_at p.assets a.endpoint) (asset_named name p) site is (λ asset found here. (asset, found))

-- a policy has one site of a name
pub one_site : (name : List ℕ) (p : Policy) (a b : SiteValue) → site_named name p ≡ Some a → site_named name p ≡ Some b → a ≡ b
one_site name p a b is other = same_Some a b (sym is ∙ other)

-- ---- an asset that was found has a site

module _ (named other : Asset → Bool) (asset : Asset) (passes : other asset ≡ true) where
  found_step : (a : Asset) (rest : List Asset) (b c : Bool) → named a ≡ b → other a ≡ c → cond b (Some a) (find named rest) ≡ Some asset
      → cond c (Some a) (find other rest) ≡ None → (find named rest ≡ Some asset → find other rest ≡ None → ⊥) → ⊥
  found_step a rest b true here there found none later = none-some a (sym none)
  found_step a rest true false here there found none later = true≢false (sym passes ∙ ap other (sym (same_Some a asset found)) ∙ there)
  found_step a rest false false here there found none later = later found none

  -- what is found by one test is not lacking by another that it passes
  found_passes : (assets : List Asset) → find named assets ≡ Some asset → find other assets ≡ None → ⊥
  found_passes [] found none = none-some asset found
  found_passes (a ∷ rest) found none =
      found_step a rest (named a) (other a) refl refl found none (λ found_later none_later. found_passes rest found_later none_later)

-- an asset of a policy has a site
has_site : (named : Asset → Bool) (assets : List Asset) (asset : Asset) → find named assets ≡ Some asset → site_at assets asset.endpoint ≡ None → ⊥
has_site named assets asset found none =
    let lacks : asset_at assets asset.endpoint ≡ None =
    sym (sites_begin assets asset.endpoint) ∙ ap (option_map (λ (site : SiteValue). site.first)) none in
    found_passes named (λ a. same_endpoint a.endpoint asset.endpoint) asset (same_self asset.endpoint) assets found lacks

module _ (assets : List Asset) (name : List ℕ) (asset : Asset) (found : Some asset ≡ find (λ a. bytes_eq a.name name) assets) where
  -- the site of the asset that was found is that of the name
  pub site_is : (site : Option SiteValue) → site ≡ site_at assets asset.endpoint
      → site ≡ option_and_then (λ a. site_at assets a.endpoint) (find (λ a. bytes_eq a.name name) assets)
  site_is site is = is ∙ ap (option_and_then (λ (a : Asset). site_at assets a.endpoint)) found

  -- so there is one
  pub site_lacks : (site : Option SiteValue) → site ≡ site_at assets asset.endpoint → IfNone site (find (λ a. bytes_eq a.name name) assets ≡ None)
  site_lacks None is = absurd (has_site (λ a. bytes_eq a.name name) assets asset (sym found) (sym is))
  site_lacks (Some site) is = tt

-- ---- the same over the assets as they are looked at

module _ (name : List ℕ) (p : Policy) (assets : List Asset) (same : assets ≡ p.assets) where
  pub site_over : (site : Option SiteValue) → site ≡ option_and_then (λ a. site_at assets a.endpoint) (find (λ a. bytes_eq a.name name) assets)
      → site ≡ site_named name p
  site_over site is = is ∙ ap (λ (xs : List Asset). option_and_then (λ (a : Asset). site_at xs a.endpoint) (find (λ a. bytes_eq a.name name) xs)) same

  pub lacks_over : (site : Option SiteValue) → IfNone site (find (λ a. bytes_eq a.name name) assets ≡ None) → IfNone site (asset_named name p ≡ None)
  lacks_over site none = subst (λ (xs : List Asset). IfNone site (find (λ a. bytes_eq a.name name) xs ≡ None)) same none
