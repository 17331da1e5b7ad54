-- For which asset of a site a unit is: `asset_for`.
use Rattle.cf_apci.specs.Apdu.{Ack, Control, Info}
use Rattle.cf_asdu.specs.Asdu.{station_of}
use Rattle.cf_lane.specs.Dnp3.{has_addresses}
use Rattle.cf_lane.specs.Item.{Broke, Ended, Item, Took}
use Rattle.cf_lane.specs.Unit.{Adu, Apdu, Frame, UnitValue}
use Rattle.cf_policy.specs.Site.{SiteValue, asset_of, assets_of}
use Rattle.cf_policy.specs.declared.Asset.{Asset}
use Rattle.cf_view.specs.declared.Side.{Side}
use Rattle.std.specs.List.{range_with_len}
use Rattle.std.specs.Prelude.{Bool, List, None, Option, Some, [], false, if◌then◌else◌, length, nat_eq, nat_lt, option_map, suc, ℕ, ◌&&◌, ◌∷◌}

-- a unit of a side is for the asset, by its station: an ADU by its unit identifier, a frame by its two addresses, and an APDU that has an
-- ASDU of nine octets or more by its common address. Acknowledgments and controls are for the whole session
abbrev pub is_for : Side → UnitValue → Asset → Bool
is_for s (Adu a) asset = nat_eq a.unit asset.station
is_for s (Frame x) asset = has_addresses asset s x
is_for s (Apdu (Info send receive asdu)) asset = nat_lt 8 (length asdu) && nat_eq (station_of asdu) asset.station
is_for s (Apdu (Ack receive)) asset = false
is_for s (Apdu (Control octet)) asset = false

-- the places of a site's assets, counted from 0
abbrev pub places_of : SiteValue → List ℕ
places_of site = range_with_len 0 (length (assets_of site))

-- the place of the first asset that passes
abbrev pub find_place : (Asset → Bool) → List Asset → Option ℕ
find_place passes [] = None
find_place passes (asset ∷ assets) = if passes asset then Some 0 else option_map suc (find_place passes assets)

-- the place that was found, or else that of the first
abbrev pub or_first : Option ℕ → ℕ
or_first None = 0
or_first (Some k) = k

-- the place of the asset that a unit is for. One that is for none goes by the first, whose test of the station refuses it
abbrev pub place_for : SiteValue → Side → UnitValue → ℕ
place_for site s u = or_first (find_place (is_for s u) (assets_of site))

-- the asset itself
abbrev pub asset_for : SiteValue → Side → UnitValue → Asset
asset_for site s u = asset_of site (place_for site s u)

-- the place of the asset that an item goes by: an End and a break, which are no asset's alone, go by the first
abbrev pub item_place : SiteValue → Item → ℕ
item_place site (Took s u) = place_for site s u
item_place site (Ended s rest) = 0
item_place site (Broke s because) = 0
