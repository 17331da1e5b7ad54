-- What the tests of assets with one endpoint leave as it was: LoneAssetsAreReadAlone.
use Rattle.std.specs.Prelude.{◌≡◌, false, List}
use Rattle.toml.specs.Data.{Members}
use Rattle.cf_view.specs.declared.base.Endpoint.{Endpoint}
use Rattle.cf_policy.specs.AtEndpoint.{has_asset_at}
use Rattle.cf_policy.specs.declared.policy.Asset.{Asset}
use Rattle.cf_policy.specs.declared.policy.Protocol.{Protocol}
use Rattle.cf_policy.specs.Within.{highest_station, lowest_station}
use Rattle.cf_policylang.specs.declared.refusal.Key.TheVariants as key
use Rattle.cf_policylang.specs.declared.refusal.Place.{Place}
use Rattle.cf_policylang.specs.Assets.{number_at, protocol, stated_protocol, station}

-- the protocol and the station of an asset are those that it states, in their ranges, where no earlier asset has its endpoint: so it is of
-- each asset in versions 1 and 2, where the endpoint is refused else
abbrev pub LoneAssetsAreReadAlone : Type 0
LoneAssetsAreReadAlone =
    (place : Place) (seen : List Asset) (own : Endpoint) (members : Members) → has_asset_at seen own ≡ false
    → (protocol place seen own members ≡ stated_protocol place members)
    × ((own_protocol : Protocol) → station own_protocol place seen own members
    ≡ number_at key.Station (lowest_station own_protocol) (highest_station own_protocol) place members)
