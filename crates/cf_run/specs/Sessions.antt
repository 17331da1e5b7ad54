-- All sessions of a run, and what holds of each: SessionsAreRight, SessionsHaveOneStream and SessionsAreIsolated.
use Rattle.std.specs.Prelude.{◌≡◌, ℕ, ◌^◌, ◌≤◌, Bool, not, List, [], ◌∷◌, ◌++◌, filter, map, slice_get, Option, None, Some}
use Rattle.std.specs.List.{AllByRecursion}
use Rattle.cf_policy.specs.declared.Asset.{Asset}
use Rattle.cf_session.specs.Event.{AreEvents as AreSessionEvents}
use Rattle.cf_session.specs.Laws.{AreUncut, IsFront, IsReassembly, given, parts_of}
use Rattle.cf_session.specs.Session.{Flow, SessionEvent, client_ends, client_of, clients, controller_ends, controllers, is_expired, work_of}
use Rattle.cf_stream.specs.Stream.{Letter}
use Rattle.cf_run.specs.Table.{Session, place_of}
use Rattle.cf_run.specs.Trace.{AreRunEvents, Begun, RunEvent, Received, Went, kept, stays, table_after, tick_of, ticked, with_event_at}
use Rattle.cf_run.specs.Trace.{with_events}

-- ---- those in the table, and those that left it

-- the session's last event cut it, so that it leaves the table
abbrev pub leaves : Session → Bool
leaves session = not (stays session)

-- the session at a place, if there is one
abbrev pub session_at : List Session → Option ℕ → List Session
session_at table None = []
session_at table (Some place) = elim (slice_get table place) [ None ↦ [] | Some session ↦ session ∷ [] ]

-- the sessions that leave the table as a packet comes: the closed one of a flow that begins anew, or one that is cut
abbrev pub left_by_packet : Received → List Session → List Session
left_by_packet (Begun flow event) table = session_at table (place_of (client_of flow) flow.site.first.endpoint table)
left_by_packet (Went place event) table = filter leaves (with_event_at place event table)
left_by_packet _ table = []

-- the sessions that leave it in an event: they have expired, are cut in its first half, or leave by the packet
abbrev pub left_in : List Session → RunEvent → List Session
left_in table event =
    filter (λ s. is_expired s.flow s.events (tick_of event.input)) table
    ++ (filter leaves (with_events (kept (tick_of event.input) table) event.ticks)
    ++ left_by_packet event.received (ticked event.ticks (tick_of event.input) table))

-- the sessions that left the table in some events, in the order in which they left
abbrev pub gone_after : List RunEvent → List Session
gone_after [] = []
gone_after (event ∷ earlier) = gone_after earlier ++ left_in (table_after earlier) event

-- all sessions that there were
abbrev pub sessions_of : List RunEvent → List Session
sessions_of events = gone_after events ++ table_after events

-- ---- each has right events, which read its own earlier ones and its flow alone

-- a session has an event, and all of its events are right; none but perhaps the newest cut it
abbrev pub HasEvents : (limit : ℕ) → Flow → List SessionEvent → Type 0
HasEvents limit flow [] = ⊥
HasEvents limit flow (event ∷ earlier) = AreSessionEvents flow limit (event ∷ earlier) × AreUncut earlier

abbrev pub HasRightEvents : (limit : ℕ) → Session → Type 0
HasRightEvents limit session = HasEvents limit session.flow session.events

abbrev pub SessionsAreRight : Type 0
SessionsAreRight = (assets : List Asset) (limit : ℕ) (events : List RunEvent) → AreRunEvents assets limit events
    → AllByRecursion (HasRightEvents limit) (sessions_of events)

-- ---- whatever copies of letters a controller takes in a session, it gets a beginning of the session's stream to it; and so does
-- the client

abbrev pub SendsOneStream : Session → Type 0
SendsOneStream session =
    (taken : List Letter) →
    (IsReassembly (parts_of (controller_ends session.flow).role (controllers session.events)) taken
    → IsFront (work_of session.events).to_controller taken)
    × (IsReassembly (parts_of (client_ends session.flow).role (clients session.events)) taken
    → IsFront (work_of session.events).to_client taken)

abbrev pub SessionsHaveOneStream : Type 0
SessionsHaveOneStream = (assets : List Asset) (limit : ℕ) (events : List RunEvent) → limit ≤ 2 ^ 30 → AreRunEvents assets limit events
    → AllByRecursion SendsOneStream (sessions_of events)

-- ---- isolation: a session of one run and one of another that have one flow and are given the same packets at the same moments
-- are the same in all that they send and log, whatever else the two captures hold

-- two sessions have one flow, and are given the same packets at the same moments
pub record AreAlike (one other : Session) : Type 0 where
  pub flow : one.flow ≡ other.flow
  pub same : map given one.events ≡ map given other.events

abbrev pub SessionsAreIsolated : Type 0
SessionsAreIsolated =
    (assets : List Asset) (limit : ℕ) (events others : List RunEvent) → AreRunEvents assets limit events → AreRunEvents assets limit others
    →
    (i j : ℕ) (one other : Session) → slice_get (sessions_of events) i ≡ Some one → slice_get (sessions_of others) j ≡ Some other
    → AreAlike one other → one ≡ other
