-- What the site at an endpoint is, in other words than those that define it: SitesAreWhole, SitesAreWithin, AssetsStandAlone.
use Rattle.std.specs.Prelude.{◌≡◌, ◌≢◌, List, [], filter, option_map, AllPairs, IfSome}
use Rattle.std.specs.Option.{option_map_or}
use Rattle.cf_policy.specs.declared.policy.Asset.{Asset}
use Rattle.cf_policy.specs.AtEndpoint.{asset_at}
use Rattle.cf_policy.specs.Site.{IsSiteWithin, alone, assets_of, site_at}
use Rattle.cf_policy.specs.Within.{AreAssetsWithin}
use Rattle.cf_view.specs.Endpoints.{same_endpoint}
use Rattle.cf_view.specs.declared.Endpoint.{Endpoint}

-- in a policy that was read the site at an endpoint has each asset of the endpoint, in their order, and no other
abbrev pub SitesAreWhole : Type 0
SitesAreWhole =
    (assets : List Asset) (endpoint : Endpoint) → AreAssetsWithin assets
    → option_map_or assets_of (site_at assets endpoint) [] ≡ filter (λ a. same_endpoint a.endpoint endpoint) assets

-- and it is in form
abbrev pub SitesAreWithin : Type 0
SitesAreWithin = (assets : List Asset) (endpoint : Endpoint) → AreAssetsWithin assets → IfSome (site_at assets endpoint) IsSiteWithin

-- its first asset is the one at the endpoint
abbrev pub SitesBeginWithAssets : Type 0
SitesBeginWithAssets = (assets : List Asset) (endpoint : Endpoint) → option_map (λ site. site.first) (site_at assets endpoint) ≡ asset_at assets endpoint

-- where no two assets have one endpoint, as in versions 1 and 2, each has its endpoint for itself
abbrev pub AssetsStandAlone : Type 0
AssetsStandAlone =
    (assets : List Asset) (endpoint : Endpoint) → AllPairs (λ a b. a.endpoint ≢ b.endpoint) assets
    → site_at assets endpoint ≡ option_map alone (asset_at assets endpoint)
