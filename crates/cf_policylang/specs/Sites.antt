-- Which assets may follow those that were read: is_endpoint_barred, and for one that joins a site is_protocol_barred, is_site_full and
-- is_station_taken.
use Rattle.std.specs.Prelude.{ℕ, Bool, true, false, not, ◌&&◌, nat_eq, nat_le, ◌-◌, List, length, slice_get}
use Rattle.std.specs.List.{list_any}
use Rattle.std.specs.Option.{option_map_or}
use Rattle.cf_view.specs.Endpoints.{same_endpoint}
use Rattle.cf_view.specs.declared.base.Endpoint.{Endpoint}
use Rattle.cf_policy.specs.AtEndpoint.{count_at, has_asset_at}
use Rattle.cf_policy.specs.declared.policy.Asset.{Asset}
use Rattle.cf_policy.specs.declared.policy.Protocol.{Protocol}
use Rattle.cf_policy.specs.declared.policy.Protocol.TheVariants.{Modbus, Dnp3, Iec104}
use Rattle.cf_policy.specs.Within.{most_at_site}
use Rattle.cf_policylang.specs.declared.sets.Edition.{Edition}
use Rattle.cf_policylang.specs.declared.sets.Edition.TheVariants as edition

-- the asset that was read last has the endpoint
abbrev pub is_last_at : List Asset → Endpoint → Bool
is_last_at seen own = option_map_or (λ a. same_endpoint a.endpoint own) (slice_get seen (length seen - 1)) false

-- no more asset may have the endpoint: an earlier one has it, and in version 3 that one is not of the site read last
abbrev pub is_endpoint_barred : Edition → List Asset → Endpoint → Bool
is_endpoint_barred edition.First seen own = has_asset_at seen own
is_endpoint_barred edition.Second seen own = has_asset_at seen own
is_endpoint_barred edition.Third seen own = has_asset_at seen own && not (is_last_at seen own)

-- an asset of the site at the endpoint passes the test
abbrev pub some_at : List Asset → Endpoint → (Asset → Bool) → Bool
some_at seen own test = list_any (λ a. same_endpoint a.endpoint own && test a) seen

abbrev pub same_protocol : Protocol → Protocol → Bool
same_protocol Modbus Modbus = true
same_protocol Dnp3 Dnp3 = true
same_protocol Iec104 Iec104 = true
same_protocol _ _ = false

-- the site has another protocol
abbrev pub is_protocol_barred : List Asset → Endpoint → Protocol → Bool
is_protocol_barred seen own own_protocol = some_at seen own (λ a. not (same_protocol a.protocol own_protocol))

-- the site has as many assets as it may have
abbrev pub is_site_full : List Asset → Endpoint → Protocol → Bool
is_site_full seen own own_protocol = nat_le (most_at_site own_protocol) (count_at seen own)

-- an asset of the site has the station
abbrev pub is_station_taken : List Asset → Endpoint → (station : ℕ) → Bool
is_station_taken seen own own_station = some_at seen own (λ a. nat_eq a.station own_station)
