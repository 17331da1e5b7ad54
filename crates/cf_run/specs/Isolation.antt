-- Isolation, `RunsIsolateSessions`, read from the end: what is matched to a session fixes all that it sends and logs, whatever else the
-- capture holds.
--
-- A session is named by its client and its site's endpoint: a table has at most one of them. Lists of events have the newest one
-- first.
use Rattle.std.specs.Prelude.{◌≡◌, ℕ, Bool, false, ◌&&◌, if◌then◌else◌, List, [], ◌∷◌, ◌++◌, filter, length, map, slice_get, Option, Some}
use Rattle.std.specs.Prelude.{None, Result, Ok, Err}
use Rattle.std.specs.List.{flat_map}
use Rattle.cf_packet.specs.Packet.{PacketValue}
use Rattle.cf_packet.specs.declared.packet.PacketRefusal.{PacketRefusal}
use Rattle.cf_policy.specs.declared.Asset.{Asset}
use Rattle.cf_session.specs.Sent.{Sent, sent_first}
use Rattle.cf_session.specs.Session.{Flow, SessionEvent, client_of}
use Rattle.cf_view.specs.declared.Endpoint.{Endpoint}
use Rattle.cf_run.specs.Run.{IsRun}
use Rattle.cf_run.specs.Summary.{found}
use Rattle.cf_run.specs.Table.{Begins, Full, Goes, Match, Outside, Session, is_between, match_of}
use Rattle.cf_view.specs.Endpoints.{same_endpoint}
use Rattle.cf_run.specs.Trace.{Begun, RunEvent, Input, Received, Went, kept, logged_in_second, logged_received, logged_ticks}
use Rattle.cf_run.specs.Trace.{sent_in_second, sent_received, table_after, tick_of}
use Rattle.cf_run.specs.declared.summary.Summary.{Summary}

-- ---- what one event is to the session of a client and a site

-- a flow is between them
abbrev pub is_flow_of : (client site : Endpoint) → Flow → Bool
is_flow_of client site flow = same_endpoint (client_of flow) client && same_endpoint flow.site.first.endpoint site

-- the session at a place is theirs
abbrev pub is_theirs : (client site : Endpoint) → Option Session → Bool
is_theirs client site None = false
is_theirs client site (Some session) = is_between client site session

-- the packet, where it goes to their session
abbrev pub matched_by : (client site : Endpoint) → List Session → PacketValue → Match → Option PacketValue
matched_by client site table packet (Goes place from) = if is_theirs client site (slice_get table place) then Some packet else None
matched_by client site table packet (Begins flow) = None
matched_by client site table packet Full = None
matched_by client site table packet Outside = None

-- the packet of a record, where it is matched to the session of this client and site
abbrev pub matched_in : List Asset → (client site : Endpoint) → List Session → Result PacketValue PacketRefusal → Option PacketValue
matched_in assets client site table (Err refusal) = None
matched_in assets client site table (Ok packet) = matched_by client site table packet (match_of assets table packet)

-- the input packet of an event that is matched to their session, if one is
abbrev pub matched_to : List Asset → (client site : Endpoint) → (before : List Session) → RunEvent → Option PacketValue
matched_to assets client site before event = matched_in assets client site (found before event) event.input.packet

-- a session of theirs begins
abbrev pub begins_theirs : (client site : Endpoint) → Received → Bool
begins_theirs client site (Begun flow event) = is_flow_of client site flow
begins_theirs client site _ = false

-- ---- what their session sends and logs in an event after the one in which it began

-- the first half of a session, among those of all sessions
abbrev pub ticks_of : (client site : Endpoint) → (table : List Session) → (ticks : List SessionEvent) → List SessionEvent
ticks_of client site [] ticks = []
ticks_of client site (session ∷ table) [] = []
ticks_of client site (session ∷ table) (tick ∷ ticks) =
    if is_between client site session then tick ∷ ticks_of client site table ticks else ticks_of client site table ticks

-- the packet went to it
abbrev pub goes_to_theirs : (client site : Endpoint) → List Session → Received → Bool
goes_to_theirs client site table (Went place event) = is_theirs client site (slice_get table place)
goes_to_theirs client site table _ = false

-- the output records of a session, each with its moment
abbrev pub sent_by : (client site : Endpoint) → (before : List Session) → RunEvent → List Sent
sent_by client site before event =
    flat_map sent_first (ticks_of client site (kept (tick_of event.input) before) event.ticks)
    ++ (if goes_to_theirs client site (found before event) event.received then sent_received event.received else [])

-- the lines of a session in the log
abbrev pub logged_by : (client site : Endpoint) → (before : List Session) → RunEvent → List (List ℕ)
logged_by client site before event =
    logged_ticks (filter (is_between client site) (kept (tick_of event.input) before))
    (ticks_of client site (kept (tick_of event.input) before) event.ticks)
    ++ (if goes_to_theirs client site (found before event) event.received then logged_received (found before event) event.received else [])

-- ---- a session of a run, over the events that are considered

-- events of which none begins a session of theirs
abbrev pub NoneBegins : (client site : Endpoint) → List RunEvent → Type 0
NoneBegins client site [] = Unit {0}
NoneBegins client site (event ∷ earlier) = (begins_theirs client site event.received ≡ false) × NoneBegins client site earlier

-- a session of this flow that begins in one of the events: of its site and client, by its SYN. The events from that one on are considered
-- up to any one, if no other session of that client and site begins in those after it
pub record HasSession (flow : Flow) (events : List RunEvent) : Type 0 where
  -- the events after those that are considered
  pub after : List RunEvent
  -- those that are considered, after the one in which it begins
  pub later : List RunEvent
  pub first : RunEvent
  -- the events before it begins
  pub earlier : List RunEvent
  pub are : events ≡ after ++ (later ++ first ∷ earlier)
  pub begun : SessionEvent
  pub begins : first.received ≡ Begun flow begun
  pub none : NoneBegins (client_of flow) flow.site.first.endpoint later

-- all that it sends from its beginning on, in its order
abbrev pub sent_over : (client site : Endpoint) → (first : RunEvent) → (earlier later : List RunEvent) → List Sent
sent_over client site first earlier [] = sent_in_second first
sent_over client site first earlier (event ∷ later) =
    sent_over client site first earlier later ++ sent_by client site (table_after (later ++ first ∷ earlier)) event

-- what a session sent in the events from its beginning on
abbrev pub session_sent : {events : List RunEvent} → (flow : Flow) → HasSession flow events → List Sent
session_sent flow has = sent_over (client_of flow) flow.site.first.endpoint has.first has.earlier has.later

-- all that it logs from its beginning on, in its order
abbrev pub logged_over : (client site : Endpoint) → (first : RunEvent) → (earlier later : List RunEvent) → List (List ℕ)
logged_over client site first earlier [] = logged_in_second (table_after earlier) first
logged_over client site first earlier (event ∷ later) =
    logged_over client site first earlier later ++ logged_by client site (table_after (later ++ first ∷ earlier)) event

-- what a session logged in the events from its beginning on
abbrev pub session_logged : {events : List RunEvent} → (flow : Flow) → HasSession flow events → List (List ℕ)
session_logged flow has = logged_over (client_of flow) flow.site.first.endpoint has.first has.earlier has.later

-- ---- two runs

-- the same packet is matched to both sessions at each of the events after the beginning, or none to either
abbrev pub AreMatched : List Asset → (client site : Endpoint) → (here there : List RunEvent) → (events others : List RunEvent) → Type 0
AreMatched assets client site here there [] [] = Unit {0}
AreMatched assets client site here there [] (other ∷ others) = ⊥
AreMatched assets client site here there (event ∷ events) [] = ⊥
AreMatched assets client site here there (event ∷ events) (other ∷ others) =
    (matched_to assets client site (table_after (events ++ here)) event ≡ matched_to assets client site (table_after (others ++ there))
    other)
    × AreMatched assets client site here there events others

-- the same packet is matched to both sessions, or none, in each event after their beginning
abbrev pub AreMatchedAlike : {events others : List RunEvent} → List Asset → (flow : Flow) → HasSession flow events → HasSession flow others
    → Type 0
AreMatchedAlike assets flow one other =
    AreMatched assets (client_of flow) flow.site.first.endpoint (one.first ∷ one.earlier) (other.first ∷ other.earlier) one.later other.later

-- the moments of records
abbrev pub moments_of : List Input → List ℕ
moments_of inputs = map (λ i. i.moment) inputs

-- two sessions have the same output records at the same moments, and the same lines in the same order
pub record DoTheSame {events others : List RunEvent} (flow : Flow) (one : HasSession flow events) (other : HasSession flow others) : Type 0
  where
    pub sent : session_sent flow one ≡ session_sent flow other
    pub logged : session_logged flow one ≡ session_logged flow other

-- two runs of one policy with equal moments: a session of the one and a session of the other, of the same client and site, which
-- began in the same event by the same packet, do the same over the events in which they are matched alike. The rest of the two
-- captures may differ in every way
abbrev pub RunsIsolateSessions : Type 0
RunsIsolateSessions =
    (assets : List Asset) (limit : ℕ) (given other_given : List Input) (out other_out log other_log : List ℕ)
    (summary other_summary : Summary)
    (run : IsRun assets limit given out log summary) (other_run : IsRun assets limit other_given other_out other_log other_summary) →
    moments_of given ≡ moments_of other_given →
    (flow : Flow) (one : HasSession flow run.events) (other : HasSession flow other_run.events) →
    length one.earlier ≡ length other.earlier → AreMatchedAlike assets flow one other → DoTheSame flow one other
