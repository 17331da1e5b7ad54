-- The units in which items go to the controller: the main definition is `units_from`, which stands last. IEEE 1815-2012,
-- sections 8.2 and 9.2, for fragments.
use Rattle.cf_dnplink.specs.LinkFrame.{frame_with}
use Rattle.cf_dnptrans.specs.Segments.{count_of, segments_of}
use Rattle.cf_lane.specs.Unit.{Frame, UnitValue}
use Rattle.cf_policy.specs.declared.Asset.{Asset}
use Rattle.std.specs.List.{sum_by}
use Rattle.std.specs.Prelude.{Bool, List, [], if◌then◌else◌, length, map, nat_eq, reverse, ℕ, ◌&&◌, ◌++◌, ◌∷◌}

-- the two link addresses of what a master sends to a station: segments are put together, and counted, for each pair of them
pub record Addresses : Type 0 where
  pub station : ℕ
  pub master : ℕ

-- those of an asset
abbrev pub addresses_of : Asset → Addresses
addresses_of asset = record { station = asset.station; master = asset.master }

-- they are the same
abbrev pub same_addresses : Addresses → Addresses → Bool
same_addresses a b = nat_eq a.station b.station && nat_eq a.master b.master

-- what goes to the controller
pub data Passed : Type 0 where
  -- a unit, as it stands
  Whole : UnitValue → Passed
  -- a fragment of DNP3 between two addresses, which is cut anew into data frames
  Fragment : Addresses → (octets : List ℕ) → Passed

-- the data frame of a master with a segment: DIR, PRM and code 4
abbrev pub data_frame : Addresses → List ℕ → UnitValue
data_frame to segment = Frame (frame_with 0xc4 to.station to.master segment)

-- the number of segments between two addresses in which one goes
abbrev pub segment_count : Addresses → Passed → ℕ
segment_count to (Whole u) = 0
segment_count to (Fragment addresses octets) = if same_addresses addresses to then count_of (length octets) else 0

-- the transport sequence that follows what went, modulo 64: the number of segments that went between the two addresses
abbrev pub start_behind : Addresses → List Passed → ℕ
start_behind to sent = sum_by (segment_count to) sent

-- the units of one, after what went before
abbrev pub units_of : (sent : List Passed) → Passed → List UnitValue
units_of sent (Whole u) = u ∷ []
units_of sent (Fragment to octets) = map (data_frame to) (reverse (segments_of octets (start_behind to sent)))

-- the units of several, one after the other, after what went before
abbrev pub units_from : (sent : List Passed) → List Passed → List UnitValue
units_from sent [] = []
units_from sent (i ∷ later) = units_of sent i ++ units_from (sent ++ i ∷ []) later
