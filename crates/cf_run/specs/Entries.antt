-- What the code makes of the sessions in memory, `entry_match`: where one stands, and what a packet is to them. It is what `Table` says
-- of the sessions that they stand for.
use Rattle.std.specs.Prelude.{ℕ, ◌-◌, nat_lt, not, Bool, true, false, ◌&&◌, if◌then◌else◌, List, length, position, slice_get, Option, Some, None}
use Rattle.std.specs.List.{remove}
use Rattle.std.specs.Option.{is_some}
use Rattle.cf_policy.specs.AtEndpoint.{asset_place}
use Rattle.cf_packet.specs.Packet.{PacketValue}
use Rattle.cf_policy.specs.declared.Asset.{Asset}
use Rattle.cf_session.specs.declared.life.Life.{Life}
use Rattle.cf_session.specs.declared.life.Life.TheVariants as life
use Rattle.cf_view.specs.declared.Endpoint.{Endpoint}
use Rattle.cf_view.specs.declared.Side.TheVariants as side
use Rattle.cf_run.specs.Table.{may_begin, table_size}
use Rattle.cf_view.specs.Endpoints.{same_endpoint}
use Rattle.cf_run.specs.declared.entry.Entry.{Entry}
use Rattle.cf_run.specs.declared.matching.Match.{Match}
use Rattle.cf_run.specs.declared.matching.Match.TheVariants as match

-- a session stays in the table after its call
abbrev pub stays_by : Life → Bool
stays_by life.Live = true
stays_by life.Closed = true
stays_by life.Expired = false
stays_by (life.Cut because) = false

-- a session that its call cut
abbrev pub cuts_by : Life → Bool
cuts_by (life.Cut because) = true
cuts_by life.Live = false
cuts_by life.Closed = false
cuts_by life.Expired = false

-- a session that its call closed
abbrev pub closes_by : (was_closed : Bool) → Life → Bool
closes_by was_closed life.Closed = not was_closed
closes_by was_closed life.Live = false
closes_by was_closed life.Expired = false
closes_by was_closed (life.Cut because) = false

-- an asset stands at an endpoint
abbrev pub is_at : Endpoint → Option Asset → Bool
is_at endpoint None = false
is_at endpoint (Some asset) = same_endpoint asset.endpoint endpoint

-- a session in memory is between this client and the site at this endpoint
abbrev pub entry_between : List Asset → (client endpoint : Endpoint) → Entry → Bool
entry_between assets client endpoint entry =
    same_endpoint entry.session.source client && is_at endpoint (slice_get assets entry.asset)

abbrev pub place_in : List Asset → (client endpoint : Endpoint) → List Entry → Option ℕ
place_in assets client endpoint table = position (entry_between assets client endpoint) table

-- a flow has no session, or a closed one
abbrev pub is_closed_in : List Entry → Option ℕ → Bool
is_closed_in table None = true
is_closed_in table (Some place) = elim (slice_get table place) [ None ↦ true | Some entry ↦ is_some entry.session.closed ]

-- the sessions without the closed one
abbrev pub without_at : List Entry → (closed : Option ℕ) → List Entry
without_at table None = table
without_at table (Some place) = remove table place

-- the number of the others
abbrev pub others : (sessions : ℕ) → (closed : Option ℕ) → ℕ
others sessions None = sessions
others sessions (Some place) = sessions - 1

abbrev pub begins_in : (sessions asset : ℕ) → (closed : Option ℕ) → Match
begins_in sessions asset closed = if nat_lt (others sessions closed) table_size then match.Begins asset closed else match.Full

abbrev pub goes_in_controller : Option ℕ → Match
goes_in_controller (Some place) = match.Goes place side.Controller
goes_in_controller None = match.Outside

abbrev pub goes_in_client : Option ℕ → (controller : Option ℕ) → Match
goes_in_client (Some place) controller = match.Goes place side.Client
goes_in_client None controller = goes_in_controller controller

abbrev pub goes_in : List Asset → List Entry → PacketValue → Match
goes_in assets table packet =
    goes_in_client (place_in assets packet.source packet.dest table) (place_in assets packet.dest packet.source table)

abbrev pub begins_at : List Asset → List Entry → PacketValue → (asset : Option ℕ) → Match
begins_at assets table packet None = goes_in assets table packet
begins_at assets table packet (Some asset) =
    if is_closed_in table (place_in assets packet.source packet.dest table)
    then begins_in (length table) asset (place_in assets packet.source packet.dest table) else goes_in assets table packet

abbrev pub entry_match : List Asset → List Entry → PacketValue → Match
entry_match assets table packet =
    if may_begin assets packet then begins_at assets table packet (asset_place assets packet.dest) else goes_in assets table packet
