-- The table of sessions, and to which of them a packet goes: match_of. The sessions stand in the order of their beginning.
use Rattle.std.specs.Prelude.{ℕ, nat_lt, not, Bool, true, ◌&&◌, if◌then◌else◌, List, length, position, slice_get, Option}
use Rattle.std.specs.Prelude.{Some, None}
use Rattle.std.specs.List.{remove}
use Rattle.cf_policy.specs.AtEndpoint.{has_asset_at}
use Rattle.cf_leg.specs.Segment.{is_opening}
use Rattle.cf_packet.specs.Packet.{PacketValue}
use Rattle.cf_policy.specs.Site.{SiteValue, site_at}
use Rattle.cf_policy.specs.declared.Asset.{Asset}
use Rattle.cf_session.specs.Session.{Flow, SessionEvent, client_of, was_closed}
use Rattle.cf_view.specs.Endpoints.{same_endpoint}
use Rattle.cf_view.specs.declared.Endpoint.{Endpoint}
use Rattle.cf_view.specs.declared.Side.{Side}
use Rattle.cf_view.specs.declared.Side.TheVariants as side

-- a session of the table: who speaks to whom, and its events so far, the newest first
pub record Session : Type 0 where
  pub flow : Flow
  pub events : List SessionEvent

-- the sessions that a table has at most
abbrev pub table_size : ℕ
table_size = 256

-- the session is between this client and the site at this endpoint
abbrev pub is_between : (client site : Endpoint) → Session → Bool
is_between client site session = same_endpoint (client_of session.flow) client && same_endpoint session.flow.site.first.endpoint site

-- the place of that session in the table
abbrev pub place_of : (client site : Endpoint) → List Session → Option ℕ
place_of client site table = position (is_between client site) table

-- the table without that session
abbrev pub without : (client site : Endpoint) → List Session → List Session
without client site table = elim (place_of client site table) [ Some place ↦ remove table place | None ↦ table ]

-- a packet that may begin a session: such a one from an endpoint that is no asset's
abbrev pub may_begin : List Asset → PacketValue → Bool
may_begin assets packet = is_opening packet && not (has_asset_at assets packet.source)

-- a closed session gives way to a new one of its flow
abbrev pub is_closed_at : List Session → Option ℕ → Bool
is_closed_at table None = true
is_closed_at table (Some place) = elim (slice_get table place) [ None ↦ true | Some session ↦ was_closed session.flow session.events ]

-- what a packet is to the table
pub data Match : Type 0 where
  -- it begins a session of this flow
  Begins : Flow → Match
  -- it would, and the table has no room
  Full : Match
  -- it goes to the session at this place, and comes from this side
  Goes : (place : ℕ) → Side → Match
  -- it is of no session
  Outside : Match

-- the session that a packet is of: from its client, or else from its controller
abbrev pub goes_from_controller : Option ℕ → Match
goes_from_controller (Some place) = Goes place side.Controller
goes_from_controller None = Outside

-- the session of its client, where there is one
abbrev pub goes_from_client : Option ℕ → (controller : Option ℕ) → Match
goes_from_client (Some place) controller = Goes place side.Client
goes_from_client None controller = goes_from_controller controller

-- the session of a packet, by its two endpoints
abbrev pub goes : List Session → PacketValue → Match
goes table packet = goes_from_client (place_of packet.source packet.dest table) (place_of packet.dest packet.source table)

-- the beginning of a session of a flow, where the table holds fewer than 256 others
abbrev pub begins_or_full : List Session → Flow → Match
begins_or_full table flow =
    if nat_lt (length (without (client_of flow) flow.site.first.endpoint table)) table_size then Begins flow else Full

-- a packet that may begin a session, and goes to a site, does so where the flow has no session that is not closed
abbrev pub begins : List Session → PacketValue → Option SiteValue → Match
begins table packet None = goes table packet
begins table packet (Some site) =
    if is_closed_at table (place_of packet.source packet.dest table) then begins_or_full table (record { site = site; syn = packet })
    else goes table packet

-- what a packet is to a table
abbrev pub match_of : List Asset → List Session → PacketValue → Match
match_of assets table packet =
    if may_begin assets packet then begins table packet (site_at assets packet.dest) else goes table packet
