-- The asset at an endpoint, `asset_at`: the first one of a list; and how many have it, `count_at`.
use Rattle.std.specs.Prelude.{ℕ, Bool, List, count_by, find, position, Option}
use Rattle.std.specs.List.{list_any}
use Rattle.cf_policy.specs.declared.policy.Asset.{Asset}
use Rattle.cf_view.specs.Endpoints.{same_endpoint}
use Rattle.cf_view.specs.declared.Endpoint.{Endpoint}

-- the asset at an endpoint
abbrev pub asset_at : List Asset → Endpoint → Option Asset
asset_at assets endpoint = find (λ a. same_endpoint a.endpoint endpoint) assets

-- whether an asset has the endpoint
abbrev pub has_asset_at : List Asset → Endpoint → Bool
has_asset_at assets endpoint = list_any (λ a. same_endpoint a.endpoint endpoint) assets

-- the place of the asset at an endpoint
abbrev pub asset_place : List Asset → Endpoint → Option ℕ
asset_place assets endpoint = position (λ a. same_endpoint a.endpoint endpoint) assets

-- the number of assets that have the endpoint
abbrev pub count_at : List Asset → Endpoint → ℕ
count_at assets endpoint = count_by (λ a. same_endpoint a.endpoint endpoint) assets
