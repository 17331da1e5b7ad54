-- What each event of a session must be, given those before it: `AreEvents`, read from the end. Nothing here speaks of another session:
-- each definition reads the flow, the limit of letters, the session's earlier events and the event.
use Rattle.std.specs.Prelude.{◌≡◌, ℕ, ◌⊎◌, not, Bool, true, ◌&&◌, if◌then◌else◌, List, [], ◌∷◌, Option, None, Some}
use Rattle.std.specs.Option.{is_none}
use Rattle.cf_audit.specs.declared.CutReason.{CutReason}
use Rattle.cf_lane.specs.History.{Element, ended_of, taken}
use Rattle.cf_leg.specs.Emits.{IsRight, syn, syn_ack_for}
use Rattle.cf_leg.specs.Event.{Came, Cut, Ending, Greeting, LegEvent, Nothing, Packet, Spoke, Unspoken, begun, moment}
use Rattle.cf_leg.specs.Heard.{offers, opening}
use Rattle.cf_packet.specs.Packet.{PacketValue}
use Rattle.cf_stream.specs.FirstCopy.{IsTaken, first_copy}
use Rattle.cf_stream.specs.Stream.{Stream, no_letters}
use Rattle.cf_view.specs.declared.Side.{Side}
use Rattle.cf_view.specs.declared.Side.TheVariants as side
use Rattle.cf_session.specs.Cuts.{clock_cut, gives_up, packet_cut}
use Rattle.cf_session.specs.Session.{Flow, SessionEvent, client_ends, client_of, clients, controller_ends, controllers, has_room, history}
use Rattle.cf_session.specs.Session.{work_of}
use Rattle.cf_session.specs.Work.{Works, fed_at, no_work}

-- the event of each leg is right after that leg's earlier ones. None is after an event that a cut broke off
pub record AreRight (flow : Flow) (earlier : List SessionEvent) (event : SessionEvent) : Type 0 where
  pub controller : IsRight (controller_ends flow) (controllers earlier) event.controller
  pub client : IsRight (client_ends flow) (clients earlier) event.client

-- a cut breaks the event of a leg off, with one RST
abbrev pub IsBrokenOff : Ending → Type 0
IsBrokenOff ending = (rst : PacketValue) × (ending ≡ Cut rst)

-- ---- the beginning: the box sends its SYN to the controller

-- the SYN that the box sends to the controller, with the number of the client's own
abbrev pub greets_controller : Flow → Came
greets_controller flow = Greeting (syn (controller_ends flow) flow.syn.seq)

-- the first event of a session: the SYN goes out, and nothing else happens
pub record IsBeginning (flow : Flow) (tick : ℕ) (event : SessionEvent) : Type 0 where
  pub right : AreRight flow [] event
  -- the speech says nothing, and starts the timer of the SYN
  pub controller : event.controller ≡ record (begun tick) { came = greets_controller flow; ending = Spoke no_letters true [] }
  pub client : event.client ≡ begun tick
  pub fed : event.fed ≡ []
  pub work : event.work ≡ no_work
  pub cut : event.cut ≡ None

-- ---- the first half: the clock calls, that of the controller's leg first

-- a cut breaks a leg's event off here, and else it goes on
abbrev pub EndsTick : (cut : Option CutReason) → Ending → Type 0
EndsTick None ending = ending ≡ Unspoken
EndsTick (Some because) ending = IsBrokenOff ending

-- the first half of a later event: both clock calls, and a cut where an end gives up
pub record IsTick (flow : Flow) (earlier : List SessionEvent) (tick : ℕ) (event : SessionEvent) : Type 0 where
  pub right : AreRight flow earlier event
  pub controller_tick : event.controller.tick ≡ tick
  pub client_tick : event.client.tick ≡ tick
  pub controller_ticked : event.controller.ticked ≡ true
  -- the client's leg is not called where the controller was silent for too long
  pub client_ticked : event.client.ticked ≡ not (gives_up (controller_ends flow).role (controllers earlier) event.controller)
  pub controller_came : event.controller.came ≡ Nothing
  pub client_came : event.client.came ≡ Nothing
  pub cut : event.cut ≡ clock_cut flow earlier event
  pub controller_ending : EndsTick event.cut event.controller.ending
  pub client_ending : EndsTick event.cut event.client.ending
  pub fed : event.fed ≡ []
  pub work : event.work ≡ work_of earlier

-- ---- the second half: a packet

-- what comes on the two legs: the packet on that of its side; and where it opens the controller's leg, the client is greeted
-- with the controller's sequence number
abbrev pub came_controller : (from : Side) → PacketValue → Came
came_controller side.Client packet = Nothing
came_controller side.Controller packet = Packet packet

-- what comes at the client's end: its own packet, or its greeting as the controller's end opens
abbrev pub came_client : Flow → (from : Side) → PacketValue → (opens : Bool) → Came
came_client flow side.Client packet opens = Packet packet
came_client flow side.Controller packet opens = if opens then Greeting (syn_ack_for (client_ends flow) flow.syn.seq packet.seq) else Nothing

-- the letters newly taken are of one side, or there are none
abbrev pub AreFed : (now : ℕ) → (from : Side) → List Element → Type 0
AreFed now from fed = (letters : Stream) × (fed ≡ fed_at now from letters)

-- what was taken of each side is what is taken of the letters offered so far, each by its first copy
pub record AreTaken (flow : Flow) (events : List SessionEvent) : Type 0 where
  pub client : IsTaken (first_copy (offers (client_ends flow).role (clients events))) (taken side.Client (history events))
  pub controller : IsTaken (first_copy (offers (controller_ends flow).role (controllers events))) (taken side.Controller (history events))

-- a cut breaks a leg's event off, and else it ends with a speech of the stream to its peer
abbrev pub EndsPacket : (cut : Option CutReason) → Stream → (roomy : Bool) → Ending → Type 0
EndsPacket None stream roomy ending = (outs : List PacketValue) × (ending ≡ Spoke stream roomy outs)
EndsPacket (Some because) stream roomy ending = IsBrokenOff ending

-- the event of a leg goes on from its first half
abbrev pub GoesOnFromHalf : (half event : LegEvent) → Type 0
GoesOnFromHalf half event = (event.tick ≡ half.tick) × (event.ticked ≡ half.ticked)

-- the second half: it goes on with the first, its packet comes at the end of its side, and what is taken is fed to the lane
pub record IsPacket (flow : Flow) (limit : ℕ) (earlier : List SessionEvent) (half : SessionEvent) (from : Side) (packet : PacketValue)
    (event : SessionEvent) : Type 0 where
  pub right : AreRight flow earlier event
  pub controller_on : GoesOnFromHalf half.controller event.controller
  pub client_on : GoesOnFromHalf half.client event.client
  pub controller_came : event.controller.came ≡ came_controller from packet
  pub client_came : event.client.came ≡ came_client flow from packet
      (opening (controller_ends flow).role (controllers earlier) event.controller && is_none event.cut)
  pub fed : AreFed (moment event.client) from event.fed
  -- nothing is taken after an End
  pub unended : ended_of from (history earlier) ≡ true → event.fed ≡ []
  pub taken : AreTaken flow (event ∷ earlier)
  pub work : Works flow.site (client_of flow) (history (event ∷ earlier)) event.work
  pub cut : event.cut ≡ packet_cut flow limit earlier event
  pub controller_ending : EndsPacket event.cut event.work.to_controller (has_room flow (event ∷ earlier)) event.controller.ending
  pub client_ending : EndsPacket event.cut event.work.to_client (has_room flow (event ∷ earlier)) event.client.ending

-- ---- all events of a session, each with the half in which it ends

-- a session begins, and then come ticks, some of them with a packet after them
abbrev pub IsEvent : Flow → (limit : ℕ) → (earlier : List SessionEvent) → SessionEvent → Type 0
IsEvent flow limit [] event = IsBeginning flow event.client.tick event
IsEvent flow limit (before ∷ earlier) event =
    IsTick flow (before ∷ earlier) event.client.tick event
    ⊎ ((half : SessionEvent) × (from : Side) × (packet : PacketValue) × IsTick flow (before ∷ earlier) half.client.tick half
    × (half.cut ≡ None)
    × IsPacket flow limit (before ∷ earlier) half from packet event)

-- the events of a session, each right after the earlier ones
abbrev pub AreEvents : Flow → (limit : ℕ) → List SessionEvent → Type 0
AreEvents flow limit [] = Unit {0}
AreEvents flow limit (event ∷ earlier) = IsEvent flow limit earlier event × AreEvents flow limit earlier
