-- The assets behind one address and port: SiteValue, IsSiteWithin; and the site of an endpoint in a policy: site_at.
use Rattle.std.specs.Prelude.{◌≡◌, ◌≢◌, ℕ, ◌≤◌, List, [], ◌∷◌, drop, get_or, length, take_while, All, AllPairs, Option, Some, None}
use Rattle.std.specs.Prelude.{option_and_then}
use Rattle.cf_view.specs.Endpoints.{same_endpoint}
use Rattle.cf_view.specs.declared.Endpoint.{Endpoint}
use Rattle.cf_policy.specs.declared.policy.Asset.{Asset}
use Rattle.cf_policy.specs.AtEndpoint.{asset_place}
use Rattle.cf_policy.specs.Within.{IsAssetWithin, most_at_site}

-- the assets behind one address and port, in the order of the policy
pub record SiteValue : Type 0 where
  pub first : Asset
  pub others : List Asset

-- all of them
abbrev pub assets_of : SiteValue → List Asset
assets_of site = site.first ∷ site.others

-- the asset of a place, and the first where there is none
abbrev pub asset_of : SiteValue → (place : ℕ) → Asset
asset_of site place = get_or (assets_of site) place site.first

-- the site of an asset that has its endpoint for itself
abbrev pub alone : Asset → SiteValue
alone asset = record { first = asset; others = [] }

-- the assets of a site: each in form, with one endpoint and one protocol, stations that differ, and not too many
pub record IsSiteWithin (site : SiteValue) : Type 0 where
  pub each : All IsAssetWithin (assets_of site)
  pub endpoint : All (λ a. a.endpoint ≡ site.first.endpoint) site.others
  pub protocol : All (λ a. a.protocol ≡ site.first.protocol) site.others
  pub stations : AllPairs (λ a b. a.station ≢ b.station) (assets_of site)
  pub count : length (assets_of site) ≤ most_at_site site.first.protocol

-- the first of these assets, and those behind it as long as they have its endpoint
abbrev pub site_of : List Asset → Option SiteValue
site_of [] = None
site_of (asset ∷ assets) = Some (record { first = asset; others = take_while (λ a. same_endpoint a.endpoint asset.endpoint) assets })

-- the site that begins with the asset of a place
abbrev pub site_from : List Asset → (place : ℕ) → Option SiteValue
site_from assets place = site_of (drop place assets)

-- the site at an endpoint: it begins with the first asset that has the endpoint
abbrev pub site_at : List Asset → Endpoint → Option SiteValue
site_at assets endpoint = option_and_then (site_from assets) (asset_place assets endpoint)
