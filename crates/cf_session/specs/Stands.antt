-- Steps of the proof: what a session in memory stands for, `IsSessionOf` and `IsSound`, and what its calls do: `Begins`, `TicksBy` and
-- `HearsBy`, one for each call.
use Rattle.std.specs.Prelude.{◌≡◌, ◌≢◌, ℕ, ◌+◌, ◌-◌, ◌*◌, ◌^◌, min, ◌<◌, ◌≤◌, Bool, true, false, List, [], ◌∷◌, length, Option, None, Some}
use Rattle.cf_lane.specs.Handled.{IsLaneOf, debt, rest_limit}
use Rattle.cf_leg.specs.Calls.{due_of as leg_due}
use Rattle.cf_leg.specs.Event.{is_settled, stream_after}
use Rattle.cf_leg.specs.Heard.{opened}
use Rattle.cf_leg.specs.Told.{is_greeted}
use Rattle.cf_outq.specs.SendQueue.{Queue, queue_length, queue_size}
use Rattle.cf_packet.specs.Packet.{PacketValue}
use Rattle.cf_policy.specs.Site.{IsSiteWithin, SiteValue}
use Rattle.cf_rebuild.specs.ReceiveWindow.{base_of}
use Rattle.cf_view.specs.declared.Side.{Side}
use Rattle.cf_session.specs.Event.{AreEvents, IsBeginning, IsPacket, IsTick}
use Rattle.cf_session.specs.Parts.{AreParts, IsPassive, SessionValue, open_places}
use Rattle.cf_session.specs.Sent.{logged_first, logged_second, sent_first, sent_second}
use Rattle.cf_session.specs.Session.{Flow, SessionEvent, client_of, clients, closed_at, controller_ends, controllers, is_expired}
use Rattle.cf_session.specs.Session.{was_closed}
use Rattle.cf_session.specs.Told.{Told, with_both}
use Rattle.cf_session.specs.declared.life.Life.{Life}
use Rattle.cf_session.specs.declared.life.Life.TheVariants as life

-- the newest event is over on both legs, and what each said last is the lane's stream to its peer
pub record AreOver (earlier : List SessionEvent) (event : SessionEvent) : Type 0 where
  pub client : is_settled (clients (event ∷ earlier)) ≡ true
  pub controller : is_settled (controllers (event ∷ earlier)) ≡ true
  pub to_client : stream_after (clients (event ∷ earlier)) ≡ event.work.to_client
  pub to_controller : stream_after (controllers (event ∷ earlier)) ≡ event.work.to_controller

-- the session stands for its events, none of which cut it
pub record IsSessionOf (flow : Flow) (earlier : List SessionEvent) (event : SessionEvent) (s : SessionValue) : Type 0 where
  pub parts : AreParts flow earlier event s
  pub events : AreEvents flow s.limit (event ∷ earlier)
  pub closed : s.closed ≡ closed_at flow (event ∷ earlier)
  pub going : event.cut ≡ None
  pub uncut : event.work.cut ≡ None
  pub source : s.source ≡ client_of flow
  pub over : AreOver earlier event
  -- the client is greeted exactly where the controller's leg has opened
  pub greeted : is_greeted (clients (event ∷ earlier)) ≡ opened (controller_ends flow).role (controllers (event ∷ earlier))

-- ---- what holds of every session, whatever happened

-- the octets that unfinished fragments may still put out, at most: 5,300 for each of the eight assets of DNP3 that a site has at most
abbrev pub most_owed : ℕ
most_owed = 42400

-- what a queue keeps, what the lane may still put there, and two bytes for each place of both windows have room
abbrev pub HasRoomFor : Queue → SessionValue → Type 0
HasRoomFor queue s = length queue.kept + debt s.lane + 2 * (open_places s.client.window + open_places s.controller.window) ≤ queue_size

-- the session can take whatever its windows let in
pub record IsSound (site : SiteValue) (s : SessionValue) : Type 0 where
  pub within : IsSiteWithin site
  pub serves : IsLaneOf site s.lane
  -- the client's end is the one that greets in answer
  pub passive : IsPassive s.client.ends.role
  pub limit : s.limit ≤ 2 ^ 30
  pub client_letters : queue_length s.to_client < s.limit
  pub controller_letters : queue_length s.to_controller < s.limit
  pub client_taken : base_of s.client.window < s.limit
  pub controller_taken : base_of s.controller.window < s.limit
  pub client_rest : length s.client.window.pending < rest_limit
  pub controller_rest : length s.controller.window.pending < rest_limit
  -- a queue has no End before the other side's was taken
  pub client_open : s.client.window.ended ≡ false → s.to_controller.ended ≡ false
  pub controller_open : s.controller.window.ended ≡ false → s.to_client.ended ≡ false
  -- where it has closed, both sides have ended
  pub client_done : s.closed ≢ None → s.client.window.ended ≡ true
  pub controller_done : s.closed ≢ None → s.controller.window.ended ≡ true
  pub commands : s.lane.admitted + s.lane.refused ≤ s.client.window.consumed + s.controller.window.consumed
  pub owed : debt s.lane ≤ most_owed
  pub client_room : HasRoomFor s.to_client s
  pub controller_room : HasRoomFor s.to_controller s

-- ---- what the calls do. What stands after a fault is in `Broken`

-- what a session answers that stays in the table
abbrev pub IsLife : Life → Type 0
IsLife life.Live = Unit {0}
IsLife life.Closed = Unit {0}
IsLife life.Expired = ⊥
IsLife (life.Cut because) = ⊥

-- what it answers then
abbrev pub life_by : (closed : Option ℕ) → Life
life_by None = life.Live
life_by (Some moment) = life.Closed

-- the session goes on with the event, and is closed after it or not
pub record Lives (flow : Flow) (earlier : List SessionEvent) (event : SessionEvent) (closed : Bool) (s : SessionValue) : Type 0 where
  pub stands : IsSessionOf flow earlier event s
  pub is_closed : was_closed flow (event ∷ earlier) ≡ closed

-- a session began: with the event, in what the desk got, and in memory
pub record Begins (flow : Flow) (tick : ℕ) (s : SessionValue) (old new : Told) : Type 0 where
  pub event : SessionEvent
  pub is_beginning : IsBeginning flow tick event
  pub told : new ≡ with_both old (sent_second event) (logged_second flow [] event)
  pub stands : IsSessionOf flow [] event s

-- the first half of an event: the clock calls of a session that has not expired, which may cut it
pub record Ticks (flow : Flow) (earlier : List SessionEvent) (tick : ℕ) (old new : Told) (event : SessionEvent) : Type 0 where
  pub kept : is_expired flow earlier tick ≡ false
  pub is_tick : IsTick flow earlier tick event
  pub told : new ≡ with_both old (sent_first event) (logged_first flow event)

-- what the first half answers: the session has expired, and nothing happened; or it was cut, or goes on
abbrev pub TicksBy : Flow → (earlier : List SessionEvent) → (tick : ℕ) → SessionValue → (old new : Told) → Life → Type 0
TicksBy flow earlier tick s old new life.Expired = (is_expired flow earlier tick ≡ true) × (new ≡ old)
TicksBy flow earlier tick s old new (life.Cut because) = (event : SessionEvent) × Ticks flow earlier tick old new event
    × (event.cut ≡ Some because)
TicksBy flow earlier tick s old new life.Live = (event : SessionEvent) × Ticks flow earlier tick old new event
    × Lives flow earlier event false s
TicksBy flow earlier tick s old new life.Closed = (event : SessionEvent) × Ticks flow earlier tick old new event
    × Lives flow earlier event true s

-- the moment at which a session expires
abbrev pub expiry_of : (closed : Option ℕ) → ℕ
expiry_of None = 2 ^ 64 - 1
expiry_of (Some moment) = min (moment + 60000000) (2 ^ 64 - 1)

-- the moment from which on the first half of an event does something: the timer of an end is due, or the session expires
abbrev pub due_of : SessionValue → ℕ
due_of s = min (expiry_of s.closed) (min (leg_due s.controller) (leg_due s.client))

-- the first half of an event before it is due sends and logs nothing, and the session as it is stands for the longer list of events
abbrev pub AreQuietBeforeDue : Type 0
AreQuietBeforeDue =
    (flow : Flow) (earlier : List SessionEvent) (event : SessionEvent) (s : SessionValue) (now : ℕ) (desk : Told)
    → IsSessionOf flow earlier event s → now < due_of s →
    TicksBy flow (event ∷ earlier) now s desk desk (life_by s.closed)

-- the second half, with a packet of a side
pub record Hears (flow : Flow) (limit : ℕ) (earlier : List SessionEvent) (half : SessionEvent) (from : Side) (packet : PacketValue)
    (old new : Told) (event : SessionEvent) : Type 0 where
  pub is_packet : IsPacket flow limit earlier half from packet event
  pub told : new ≡ with_both old (sent_second event) (logged_second flow earlier event)

-- the lane's numbers are those of the event's work
pub record CountsAs (event : SessionEvent) (s : SessionValue) : Type 0 where
  pub admitted : s.lane.admitted ≡ event.work.admitted
  pub refused : s.lane.refused ≡ event.work.refused

-- what the second half answers: the session was cut, or goes on
abbrev pub HearsBy : Flow → (limit : ℕ) → (earlier : List SessionEvent) → (half : SessionEvent) → Side → PacketValue → SessionValue
    → (old new : Told) → Life → Type 0
HearsBy flow limit earlier half from packet s old new life.Expired = ⊥
HearsBy flow limit earlier half from packet s old new (life.Cut because) =
    (event : SessionEvent) × Hears flow limit earlier half from packet old new event × (event.cut ≡ Some because) × CountsAs event s
HearsBy flow limit earlier half from packet s old new life.Live =
    (event : SessionEvent) × Hears flow limit earlier half from packet old new event × Lives flow earlier event false s
HearsBy flow limit earlier half from packet s old new life.Closed =
    (event : SessionEvent) × Hears flow limit earlier half from packet old new event × Lives flow earlier event true s
