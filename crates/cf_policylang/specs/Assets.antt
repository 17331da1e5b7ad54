-- What the tables of a policy's assets mean: assets_from, and asset of one.
use Rattle.std.specs.Prelude.{ℕ, Bool, is_some, if◌then◌else◌, List, [], ◌∷◌, Option, Some, None, Ok, codes, bytes_eq}
use Rattle.std.specs.List.{list_any}
use Rattle.toml.specs.Data.{Items, Members}
use Rattle.cf_view.specs.declared.base.Endpoint.{Endpoint}
use Rattle.cf_policy.specs.declared.policy.Asset.{Asset}
use Rattle.cf_policy.specs.declared.policy.Protocol.{Protocol}
use Rattle.cf_policy.specs.declared.policy.Protocol.TheVariants.{Modbus, Dnp3, Iec104}
use Rattle.cf_policy.specs.Within.{lowest_station, highest_station, highest_master}
use Rattle.cf_policylang.specs.declared.refusal.Key.{Key}
use Rattle.cf_policylang.specs.declared.refusal.Key.TheVariants as key
use Rattle.cf_policylang.specs.declared.refusal.Cause.TheVariants as cause
use Rattle.cf_policylang.specs.declared.refusal.Place.{Place}
use Rattle.cf_policylang.specs.Fields.{as_text, as_number, has_other, required, stated, number_in, tables_from}
use Rattle.cf_policylang.specs.Numbers.{address}
use Rattle.cf_policylang.specs.declared.sets.Edition.{Edition}
use Rattle.cf_policylang.specs.declared.sets.Named.{Named}
use Rattle.cf_policylang.specs.Fields.{name}
use Rattle.cf_policylang.specs.Rules.{rules}
use Rattle.cf_policylang.specs.Sites.{is_endpoint_barred, is_protocol_barred, is_site_full, is_station_taken}
use Rattle.cf_policylang.specs.Tested.{Tested, and_then, refused, or_refused, at_asset, at_document}

-- the keys that an asset may have
abbrev pub asset_keys : List Key
asset_keys = key.Name ∷ key.Address ∷ key.Port ∷ key.Protocol ∷ key.Station ∷ key.Master ∷ key.Rule ∷ []

-- an earlier asset has the name
abbrev pub is_asset_taken : List Asset → List ℕ → Bool
is_asset_taken seen text = list_any (λ a. bytes_eq a.name text) seen

-- the name of an asset, which no earlier one has
abbrev pub asset_name : Place → List Asset → Members → Tested (List ℕ)
asset_name place seen members =
    and_then (name place members) (λ text. if is_asset_taken seen text then refused cause.Duplicate key.Name place else Ok text)

-- the address of an asset
abbrev pub asset_address : Place → Members → Tested ℕ
asset_address place members =
    and_then (required key.Address place members) (λ value.
    and_then (as_text key.Address place value) (λ text. or_refused cause.BadAddress key.Address place (address text)))

-- the number at a key, from low to high
abbrev pub number_at : Key → ℕ → ℕ → Place → Members → Tested ℕ
number_at key low high place members =
    and_then (required key place members) (λ value.
    and_then (as_number key place value) (λ z. or_refused cause.BadRange key place (number_in low high z)))

-- the address, and then the port, at which the whole endpoint is tested
abbrev pub endpoint : Edition → Place → List Asset → Members → Tested Endpoint
endpoint own_edition place seen members =
    and_then (asset_address place members) (λ own_address.
    and_then (number_at key.Port 1 65535 place members) (λ own_port.
    let own : Endpoint = record { address = own_address; port = own_port } in
    if is_endpoint_barred own_edition seen own then refused cause.Duplicate key.Port place else Ok own))

-- the protocol of a word
abbrev pub protocol_of : List ℕ → Option Protocol
protocol_of text =
    if bytes_eq text (codes "modbus") then Some Modbus
    else if bytes_eq text (codes "dnp3") then Some Dnp3
    else if bytes_eq text (codes "iec104") then Some Iec104
    else None

-- the protocol that an asset states
abbrev pub stated_protocol : Place → Members → Tested Protocol
stated_protocol place members =
    and_then (required key.Protocol place members) (λ value.
    and_then (as_text key.Protocol place value) (λ text. or_refused cause.BadRange key.Protocol place (protocol_of text)))

-- the protocol of an asset, that of the site that it joins, which has room for one more
abbrev pub protocol : Place → List Asset → Endpoint → Members → Tested Protocol
protocol place seen own_endpoint members =
    and_then (stated_protocol place members) (λ own.
    if is_protocol_barred seen own_endpoint own then refused cause.Duplicate key.Protocol place else
    if is_site_full seen own_endpoint own then refused cause.TooMany key.Protocol place else Ok own)

-- the station of an asset, which no asset of the site that it joins has
abbrev pub station : Protocol → Place → List Asset → Endpoint → Members → Tested ℕ
station own_protocol place seen own_endpoint members =
    and_then (number_at key.Station (lowest_station own_protocol) (highest_station own_protocol) place members) (λ own.
    if is_station_taken seen own_endpoint own then refused cause.Duplicate key.Station place else Ok own)

-- a key that the protocol does not have, and so counts as unknown
abbrev pub no_master : Place → Members → Tested ℕ
no_master place members = if is_some (stated key.Master members) then refused cause.UnknownKey key.Nothing place else Ok 0

-- the master's address, which DNP3 alone has
abbrev pub master : Protocol → Place → Members → Tested ℕ
master Dnp3 place members = number_at key.Master 0 (highest_master Dnp3) place members
master _ place members = no_master place members

-- the asset of this number, from 1, after those that were read
abbrev pub asset : Named → ℕ → List Asset → Members → Tested Asset
asset named n seen members =
    let place = at_asset n in
    if has_other asset_keys members then refused cause.UnknownKey key.Nothing place else
    and_then (asset_name place seen members) (λ own_name.
    and_then (endpoint named.edition place seen members) (λ own_endpoint.
    and_then (protocol place seen own_endpoint members) (λ own_protocol.
    and_then (station own_protocol place seen own_endpoint members) (λ own_station.
    and_then (master own_protocol place members) (λ own_master.
    and_then (rules named own_protocol n members) (λ own_rules.
    Ok (record {
      name = own_name;
      endpoint = own_endpoint;
      protocol = own_protocol;
      station = own_station;
      master = own_master;
      rules = own_rules;
    })))))))

-- the assets in their order, after n that were read
abbrev pub assets_from : Named → ℕ → Items → List Asset → Tested (List Asset)
assets_from named n items seen = tables_from key.Asset at_document (asset named) n items seen
