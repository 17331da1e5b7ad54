-- Steps of the proof: the watched flows of one client and one site, `pair_of`, and the packets that go from the one to the other, `is_to`.
use Rattle.std.specs.Prelude.{◌&&◌, ◌==◌, ℕ, Bool, false, List, [], ◌∷◌, ◌++◌, Option, Some, None, Ok, if◌then◌else◌}
use Rattle.cf_packet.specs.Packet.{PacketValue}
use Rattle.cf_policy.specs.declared.Asset.{Asset}
use Rattle.cf_view.specs.declared.Endpoint.{Endpoint}
use Rattle.cf_policy.specs.AtEndpoint.{asset_place}
use Rattle.cf_view.specs.Endpoints.{same_endpoint}
use Rattle.cf_watch.specs.Watched.{Watched, is_between, with_record}
use Rattle.cf_unobjected.specs.OneFlow.{Numbered}

-- the flows of a client and the site of a place, the newest first
abbrev pub pair_of : (client : Endpoint) (asset : ℕ) → List Watched → List Watched
pair_of client asset [] = []
pair_of client asset (f ∷ fs) = pair_of client asset fs ++ (if is_between client asset f then f ∷ [] else [])

-- the flows after these packets, the oldest first
abbrev pub heard_on : List Asset → List Numbered → List Watched → List Watched
heard_on assets [] flows = flows
heard_on assets (n ∷ ns) flows = heard_on assets ns (with_record assets n.number (Ok n.packet) flows)

-- what goes from a source to the site of a place, if to one, goes from a client to a site
abbrev pub is_to_place : (client : Endpoint) (asset : ℕ) → (source : Endpoint) → (place : Option ℕ) → Bool
is_to_place client asset source None = false
is_to_place client asset source (Some place) = same_endpoint source client && (place == asset)

abbrev pub goes_to_place : List Asset → (client : Endpoint) (asset : ℕ) → PacketValue → Bool
goes_to_place assets client asset p = is_to_place client asset p.source (asset_place assets p.dest)

abbrev pub is_to : List Asset → (client : Endpoint) (asset : ℕ) → Numbered → Bool
is_to assets client asset n = goes_to_place assets client asset n.packet
