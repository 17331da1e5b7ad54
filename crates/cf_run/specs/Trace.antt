-- What happens, record by record: `RunEvent` and `AreRunEvents`, and what is `sent` and `logged`. Each record of a capture is one event,
-- which fires the timers that are due and then handles the packet.
--
-- Lists of events have the newest one first, so that what was before an event is the list after it.
use Rattle.std.specs.Prelude.{◌≡◌, ℕ, zero, suc, ◌-◌, not, Bool, false, List, [], ◌∷◌, ◌++◌, filter, slice_get, Option, Some, None}
use Rattle.std.specs.Prelude.{Result, Ok, Err}
use Rattle.std.specs.List.{flat_map}
use Rattle.std.specs.Option.{is_some}
use Rattle.cf_packet.specs.Packet.{PacketValue}
use Rattle.cf_packet.specs.declared.packet.PacketRefusal.{PacketRefusal}
use Rattle.cf_policy.specs.declared.Asset.{Asset}
use Rattle.cf_view.specs.declared.Side.{Side}
use Rattle.cf_session.specs.Event.{IsBeginning, IsPacket, IsTick}
use Rattle.cf_session.specs.Sent.{Sent, logged_first, logged_second, sent_first, sent_second}
use Rattle.cf_session.specs.Session.{Flow, SessionEvent, client_of, is_expired}
use Rattle.cf_run.specs.Table.{Begins, Full, Goes, Match, Outside, Session, match_of, without}

-- a record as the run takes it: its moment in microseconds, and the packet in its octets, or why there is none
pub record Input : Type 0 where
  pub moment : ℕ
  pub packet : Result PacketValue PacketRefusal

-- what became of a packet
pub data Received : Type 0 where
  -- its octets are no packet
  Dropped : Received
  -- it would begin a session, and the table had no room
  NoRoom : Received
  -- it is of no session
  NoSession : Received
  -- a session began
  Begun : Flow → SessionEvent → Received
  -- the event of the session at this place goes on
  Went : (place : ℕ) → SessionEvent → Received

-- one event: the record, the first half of each session in the table that has not expired, in their order, and what became of
-- the packet
pub record RunEvent : Type 0 where
  pub input : Input
  pub ticks : List SessionEvent
  pub received : Received

-- the timers fire one microsecond before the packet
abbrev pub tick_of : Input → ℕ
tick_of input = input.moment - 1

-- ---- the table

-- the session's last event cut it
abbrev pub ends_cut : List SessionEvent → Bool
ends_cut [] = false
ends_cut (event ∷ earlier) = is_some event.cut

-- the session's last event did not cut it
abbrev pub stays : Session → Bool
stays session = not (ends_cut session.events)

-- the sessions that have not expired
abbrev pub kept : (tick : ℕ) → List Session → List Session
kept tick table = filter (λ s. not (is_expired s.flow s.events tick)) table

-- each session with its next event
abbrev pub with_events : List Session → List SessionEvent → List Session
with_events [] events = []
with_events (session ∷ table) [] = session ∷ table
with_events (session ∷ table) (event ∷ events) = record session { events = event ∷ session.events } ∷ with_events table events

-- the table as the packet finds it: those that expired or were cut in the first half are gone
abbrev pub ticked : List SessionEvent → (tick : ℕ) → List Session → List Session
ticked ticks tick table = filter stays (with_events (kept tick table) ticks)

-- the newest event goes on
abbrev pub replaced : SessionEvent → List SessionEvent → List SessionEvent
replaced event [] = event ∷ []
replaced event (half ∷ earlier) = event ∷ earlier

-- the table where the newest event of the session at this place went on
abbrev pub with_event_at : (place : ℕ) → SessionEvent → List Session → List Session
with_event_at place event [] = []
with_event_at zero event (session ∷ table) = record session { events = replaced event session.events } ∷ table
with_event_at (suc place) event (session ∷ table) = session ∷ with_event_at place event table

-- the table after the packet: a new session stands last, and the closed one of its flow is gone; a session that was cut is gone
abbrev pub after_received : Received → List Session → List Session
after_received (Begun flow event) table = without (client_of flow) flow.site.first.endpoint table ++ record { flow = flow; events = event ∷ [] }
    ∷ []
after_received (Went place event) table = filter stays (with_event_at place event table)
after_received _ table = table

-- the table after events
abbrev pub table_after : List RunEvent → List Session
table_after [] = []
table_after (event ∷ earlier) = after_received event.received (ticked event.ticks (tick_of event.input) (table_after earlier))

-- ---- what an event must be, given those before it

-- each session has the first half of an event, which is right after its earlier events
abbrev pub AreTicks : (tick : ℕ) → List Session → List SessionEvent → Type 0
AreTicks tick [] events = events ≡ []
AreTicks tick (session ∷ table) [] = ⊥
AreTicks tick (session ∷ table) (event ∷ events) = IsTick session.flow session.events tick event × AreTicks tick table events

-- the event of a session goes on with a packet
abbrev pub GoesOnWith : (limit : ℕ) → Side → PacketValue → SessionEvent → Flow → List SessionEvent → Type 0
GoesOnWith limit from packet event flow [] = ⊥
GoesOnWith limit from packet event flow (half ∷ earlier) = IsPacket flow limit earlier half from packet event

-- the session at a place goes on so
abbrev pub GoesOnAt : (limit : ℕ) → Side → PacketValue → SessionEvent → Option Session → Type 0
GoesOnAt limit from packet event None = ⊥
GoesOnAt limit from packet event (Some session) = GoesOnWith limit from packet event session.flow session.events

-- what becomes of a packet is what it is to the table
abbrev pub Receives : (limit tick : ℕ) → List Session → PacketValue → Match → Received → Type 0
Receives limit tick table packet (Begins flow) (Begun begun event) = (begun ≡ flow) × IsBeginning flow tick event
Receives limit tick table packet Full NoRoom = Unit {0}
Receives limit tick table packet (Goes place from) (Went at event) = (at ≡ place) × GoesOnAt limit from packet event (slice_get table place)
Receives limit tick table packet Outside NoSession = Unit {0}
Receives limit tick table packet _ _ = ⊥

-- a record without a packet is dropped
abbrev pub ReceivesRecord : List Asset → (limit tick : ℕ) → List Session → Result PacketValue PacketRefusal → Received → Type 0
ReceivesRecord assets limit tick table (Err refusal) received = received ≡ Dropped
ReceivesRecord assets limit tick table (Ok packet) received = Receives limit tick table packet (match_of assets table packet) received

-- an event is right after the table before it: each session has its first half, and the packet is received
pub record IsRunEvent (assets : List Asset) (limit : ℕ) (before : List Session) (event : RunEvent) : Type 0 where
  pub ticks : AreTicks (tick_of event.input) (kept (tick_of event.input) before) event.ticks
  pub received : ReceivesRecord assets limit (tick_of event.input) (ticked event.ticks (tick_of event.input) before) event.input.packet
      event.received

-- events, each right after the earlier ones
abbrev pub AreRunEvents : List Asset → (limit : ℕ) → List RunEvent → Type 0
AreRunEvents assets limit [] = Unit {0}
AreRunEvents assets limit (event ∷ earlier) = IsRunEvent assets limit (table_after earlier) event × AreRunEvents assets limit earlier

-- ---- what is sent and logged

-- the lines of the first halves, in the order of the sessions
abbrev pub logged_ticks : List Session → List SessionEvent → List (List ℕ)
logged_ticks [] events = []
logged_ticks (session ∷ table) [] = []
logged_ticks (session ∷ table) (event ∷ events) = logged_first session.flow event ++ logged_ticks table events

-- what is sent in the second half
abbrev pub sent_received : Received → List Sent
sent_received (Begun flow event) = sent_second event
sent_received (Went place event) = sent_second event
sent_received _ = []

-- the earlier events, without the newest one
abbrev pub behind : List SessionEvent → List SessionEvent
behind [] = []
behind (event ∷ earlier) = earlier

-- the lines of the second half of a session at a place
abbrev pub logged_at : Option Session → SessionEvent → List (List ℕ)
logged_at None event = []
logged_at (Some session) event = logged_second session.flow (behind session.events) event

-- the lines of the second half
abbrev pub logged_received : List Session → Received → List (List ℕ)
logged_received table (Begun flow event) = logged_second flow [] event
logged_received table (Went place event) = logged_at (slice_get table place) event
logged_received table _ = []

-- each half of an event
abbrev pub sent_in_first : RunEvent → List Sent
sent_in_first event = flat_map sent_first event.ticks

-- what is sent in the second half of an event
abbrev pub sent_in_second : RunEvent → List Sent
sent_in_second event = sent_received event.received

-- the lines of the first half of an event
abbrev pub logged_in_first : (before : List Session) → RunEvent → List (List ℕ)
logged_in_first before event = logged_ticks (kept (tick_of event.input) before) event.ticks

-- the lines of the second half of an event
abbrev pub logged_in_second : (before : List Session) → RunEvent → List (List ℕ)
logged_in_second before event = logged_received (ticked event.ticks (tick_of event.input) before) event.received

-- all that events sent and logged, the oldest first
abbrev pub sent : List RunEvent → List Sent
sent [] = []
sent (event ∷ earlier) = sent earlier ++ (sent_in_first event ++ sent_in_second event)

-- all lines of events, the oldest first
abbrev pub logged : List RunEvent → List (List ℕ)
logged [] = []
logged (event ∷ earlier) = logged earlier ++ (logged_in_first (table_after earlier) event ++ logged_in_second (table_after earlier) event)
