-- A session: a client, a site, and what happened, event by event. The main definitions are `Flow` and `SessionEvent`, and `has_room`,
-- `is_closed` and `is_expired`, which read a session's events alone.
--
-- Lists of events have the newest one first, so that what was before an event is the list after it.
use Rattle.std.specs.Prelude.{ℕ, ◌+◌, ◌-◌, ◌==◌, nat_le, Bool, false, ◌&&◌, if◌then◌else◌, List, [], ◌∷◌, ◌++◌, map, Option, None, Some}
use Rattle.std.specs.Option.{option_or, is_some}
use Rattle.cf_audit.specs.declared.CutReason.{CutReason}
use Rattle.cf_lane.specs.History.{Element, ended_of}
use Rattle.cf_leg.specs.Event.{LegEvent, moment}
use Rattle.cf_leg.specs.Heard.{acked}
use Rattle.cf_leg.specs.declared.Ends.{Ends}
use Rattle.cf_leg.specs.declared.Role.TheVariants as role
use Rattle.cf_packet.specs.Packet.{PacketValue}
use Rattle.cf_policy.specs.Site.{SiteValue}
use Rattle.cf_stream.specs.Sizes.{window_size}
use Rattle.cf_stream.specs.Stream.{Stream, letter_count}
use Rattle.cf_view.specs.declared.Endpoint.{Endpoint}
use Rattle.cf_view.specs.declared.Side.TheVariants as side
use Rattle.cf_session.specs.Work.{Work, no_work}

-- who speaks to whom: the site, and the SYN that began the session; its source is the client
pub record Flow : Type 0 where
  pub site : SiteValue
  pub syn : PacketValue

-- the client: the source of the SYN
abbrev pub client_of : Flow → Endpoint
client_of flow = flow.syn.source

-- the two ends of the box. It has the client's endpoint towards the controller, and the controller's towards the client
abbrev pub controller_ends : Flow → Ends
controller_ends flow = record { own = flow.syn.source; peer = flow.site.first.endpoint; role = role.Active flow.syn.seq }

-- the end towards the client, which has the controller's endpoint
abbrev pub client_ends : Flow → Ends
client_ends flow = record { own = flow.site.first.endpoint; peer = flow.syn.source; role = role.Passive flow.syn.seq flow.syn.mss }

-- one event of a session: a tick, and a microsecond later perhaps a packet
pub record SessionEvent : Type 0 where
  -- the event of each leg
  pub controller : LegEvent
  pub client : LegEvent
  -- the letters newly taken: those of one side, or none
  pub fed : List Element
  -- what the lane makes of all that was taken so far
  pub work : Work
  -- why the session is cut in the event
  pub cut : Option CutReason

-- the events of each leg
abbrev pub controllers : List SessionEvent → List LegEvent
controllers events = map (λ e. e.controller) events

-- the events of the end towards the client
abbrev pub clients : List SessionEvent → List LegEvent
clients events = map (λ e. e.client) events

-- all that was taken, the oldest first
abbrev pub history : List SessionEvent → List Element
history [] = []
history (event ∷ earlier) = history earlier ++ event.fed

-- what the lane has made of all that was taken in these events
abbrev pub work_of : List SessionEvent → Work
work_of [] = no_work
work_of (event ∷ earlier) = event.work

-- ---- room: in both directions at most 16,384 letters are not acknowledged

-- no more letters of a stream than the greatest window has are without acknowledgment
abbrev pub is_short : Stream → (acknowledged : ℕ) → Bool
is_short stream acknowledged = nat_le (letter_count stream - acknowledged) window_size

-- both streams have room
abbrev pub has_room : Flow → List SessionEvent → Bool
has_room flow events =
    is_short (work_of events).to_client (acked (client_ends flow).role (clients events))
    && is_short (work_of events).to_controller (acked (controller_ends flow).role (controllers events))

-- ---- closing: both Ends were taken, and both streams are acknowledged, End included

-- a stream with its End is acknowledged to its last letter
abbrev pub is_done : Stream → (acknowledged : ℕ) → Bool
is_done stream acknowledged = stream.ended && (acknowledged == letter_count stream)

-- both Ends were taken, and both streams are acknowledged
abbrev pub is_closed : Flow → List SessionEvent → Bool
is_closed flow events =
    (ended_of side.Client (history events) && ended_of side.Controller (history events))
    && (is_done (work_of events).to_client (acked (client_ends flow).role (clients events))
    && is_done (work_of events).to_controller (acked (controller_ends flow).role (controllers events)))

-- the moment of the first event after which it was closed
abbrev pub closed_at : Flow → List SessionEvent → Option ℕ
closed_at flow [] = None
closed_at flow (event ∷ earlier) =
    option_or (closed_at flow earlier) (if is_closed flow (event ∷ earlier) then Some (moment event.client) else None)

-- the session was closed after one of these events
abbrev pub was_closed : Flow → List SessionEvent → Bool
was_closed flow events = is_some (closed_at flow events)

-- sixty seconds after a closing, in microseconds
abbrev pub is_past : (closed : Option ℕ) → (tick : ℕ) → Bool
is_past None tick = false
is_past (Some closed) tick = nat_le (closed + 60000000) tick

-- a closed session leaves the table at the first tick that is sixty seconds or more after its closing
abbrev pub is_expired : Flow → List SessionEvent → (tick : ℕ) → Bool
is_expired flow events tick = is_past (closed_at flow events) tick
