-- Steps of the proof: what the steps of a call do, over the parts of a session: `Hearing`, `GreetsClient`, `SaysBoth` and `CutsBoth`.
use Rattle.std.specs.Prelude.{◌≡◌, ◌≢◌, ℕ, ◌+◌, ◌*◌, ◌^◌, ◌<◌, ◌≤◌, Bool, true, false, List, [], ◌∷◌, ◌++◌, length, ◌-◌, ◌&&◌, ◌==◌, not}
use Rattle.std.specs.Prelude.{if◌then◌else◌, Option, None, Some}
use Rattle.std.specs.Option.{is_some}
use Rattle.cf_audit.specs.Line.{Close, Cut as CutLine}
use Rattle.cf_audit.specs.declared.CutReason.{CutReason}
use Rattle.cf_driver.specs.Small.{is_small}
use Rattle.cf_driver.specs.Takes.{OnlyPushed}
use Rattle.cf_leg.specs.Emits.{IsRight, syn_ack_for}
use Rattle.cf_leg.specs.Told.{is_greeted}
use Rattle.cf_leg.specs.Calls.{with_letters}
use Rattle.cf_leg.specs.Event.{Came, Cut as LegCut, Ending, LegEvent, Nothing, Packet, Spoke, Unspoken, Greeting, moment}
use Rattle.cf_leg.specs.Heard.{answer_to, end_state, has_opened, offers}
use Rattle.cf_leg.specs.LegValue.{LegValue}
use Rattle.cf_leg.specs.declared.Ends.{Ends}
use Rattle.cf_leg.specs.declared.LegAnswer.{LegAnswer}
use Rattle.cf_leg.specs.declared.Phase.TheVariants as phase
use Rattle.cf_outq.specs.SendQueue.{IsQueueOf, Queue, empty, queue_length, queue_size}
use Rattle.cf_outside.specs.Desk.{DeskValue}
use Rattle.cf_packet.specs.Packet.{PacketValue}
use Rattle.cf_rebuild.specs.ReceiveWindow.{Window, base_of}
use Rattle.cf_stream.specs.FirstCopy.{IsTaken, first_copy}
use Rattle.cf_stream.specs.Sizes.{window_size}
use Rattle.cf_stream.specs.Stream.{Stream, letter_count, no_letters}
use Rattle.cf_lane.specs.Follows.{Rests, no_rests, with_rest}
use Rattle.cf_lane.specs.Handled.{LaneValue, debt, rest_limit}
use Rattle.cf_lane.specs.Log.{line_about}
use Rattle.cf_lane.specs.History.{Element, ended_of, taken}
use Rattle.cf_policy.specs.Site.{SiteValue}
use Rattle.cf_view.specs.declared.Endpoint.{Endpoint}
use Rattle.cf_view.specs.declared.Side.{Side}
use Rattle.cf_view.specs.declared.Side.TheVariants as side
use Rattle.cf_session.specs.Broken.{BreaksAmid, Gets}
use Rattle.cf_session.specs.Event.{AreTaken, came_controller}
use Rattle.cf_session.specs.Stands.{HasRoomFor, most_owed}
use Rattle.cf_session.specs.Parts.{AreParts, IsLaneAfter, IsPassive, IsLegBetween, SessionValue, open_places, other_queue, own_queue}
use Rattle.cf_session.specs.Sent.{at, line}
use Rattle.cf_session.specs.Session.{Flow, SessionEvent, client_ends, client_of, clients, controller_ends, controllers, history}
use Rattle.cf_session.specs.Told.{Told, with_both}
use Rattle.cf_session.specs.Work.{Work, Works, fed_at, no_work}

-- the RSTs of a cut
pub record RightCuts (flow : Flow) (controllers clients : List LegEvent) (controller client : LegEvent) : Type 0 where
  pub to_controller : PacketValue
  pub controller_right : IsRight (controller_ends flow) controllers (record controller { ending = LegCut to_controller })
  pub to_client : PacketValue
  pub client_right : IsRight (client_ends flow) clients (record client { ending = LegCut to_client })

-- both sides have their RST, and the log its line; or the desk failed amid that
pub record CutsBoth (flow : Flow) (controllers clients : List LegEvent) (controller client : LegEvent) (now : ℕ) (because : CutReason)
    (old new : DeskValue) (failed : Bool) : Type 0 where
  pub rsts : RightCuts flow controllers clients controller client
  pub gets : Gets failed (at now (rsts.to_controller ∷ rsts.to_client ∷ [])) (line flow now (CutLine because) ∷ []) old new

-- a session to which nothing happened
pub record IsMade (flow : Flow) (s : SessionValue) : Type 0 where
  pub client : IsLegBetween (client_ends flow) s.client s.to_client []
  pub controller : IsLegBetween (controller_ends flow) s.controller s.to_controller []
  pub client_base : base_of s.client.window ≡ 0
  pub controller_base : base_of s.controller.window ≡ 0
  pub client_edge : s.client.window.edge ≡ 0
  pub controller_edge : s.controller.window.edge ≡ 0
  pub controller_made : s.controller.phase ≡ phase.Made
  pub lane : IsLaneAfter flow.site (client_of flow) s.lane no_rests [] no_work
  pub owed : debt s.lane ≡ 0
  pub commands : s.lane.admitted + s.lane.refused ≡ 0
  pub to_client : s.to_client ≡ empty
  pub to_controller : s.to_controller ≡ empty
  pub client_list : IsQueueOf s.to_client no_letters
  pub controller_list : IsQueueOf s.to_controller no_letters
  pub closed : s.closed ≡ None
  pub source : s.source ≡ client_of flow

-- ---- letters are handed to the lane

-- lane and queues stand for a history whose work has not cut the session
pub record AreUncut (site : SiteValue) (client : Endpoint) (rests : Rests) (earlier : List Element) (work : Work) (lane : LaneValue)
    (to_client to_controller : Queue) : Type 0 where
  pub lane_stands : IsLaneAfter site client lane rests earlier work
  pub uncut : work.cut ≡ None
  pub client_stands : IsQueueOf to_client work.to_client
  pub controller_stands : IsQueueOf to_controller work.to_controller

-- lane, queues and log stand for a history with more letters of a side: the lane's work went on by these lines
pub record FollowsMore (site : SiteValue) (client : Endpoint) (now : ℕ) (s : Side) (rests : Rests) (earlier : List Element) (before : Work)
    (letters : Stream)
    (lane : LaneValue) (to_client to_controller : Queue) (cut : Option CutReason) (old new : Told) : Type 0 where
  pub work : Work
  pub lane_stands : IsLaneAfter site client lane rests (earlier ++ fed_at now s letters) work
  pub client_stands : IsQueueOf to_client work.to_client
  pub controller_stands : IsQueueOf to_controller work.to_controller
  pub cut_is : work.cut ≡ cut
  pub lines : List (List ℕ)
  pub log_is : work.log ≡ before.log ++ lines
  pub told : new ≡ with_both old [] lines

-- what it does to the room, whatever came before
pub record HandsOver (s : Side) (old new : Window) (lane lane' : LaneValue) (c c' k k' : Queue) : Type 0 where
  pub edge : new.edge ≡ old.edge
  pub ended : new.ended ≡ old.ended
  pub base : base_of new ≡ base_of old
  pub client_room : length c'.kept + debt lane' + 2 * open_places new ≤ length c.kept + debt lane + 2 * open_places old
  pub controller_room : length k'.kept + debt lane' + 2 * open_places new ≤ length k.kept + debt lane + 2 * open_places old
  pub client_pushed : OnlyPushed c c'
  pub controller_pushed : OnlyPushed k k'
  pub commands : lane'.admitted + lane'.refused + old.consumed ≤ lane.admitted + lane.refused + new.consumed
  pub owed : debt lane' ≤ most_owed
  -- End went to the other side alone, and only where the window has it
  pub own_ended : (own_queue s c' k').ended ≡ (own_queue s c k).ended
  pub other_ended : old.ended ≡ false → (other_queue s c' k').ended ≡ (other_queue s c k).ended

-- ---- a packet is heard

-- room for what a packet of a side may bring, whatever came before
pub record MayHear (s : Side) (leg : LegValue) (lane : LaneValue) (c k : Queue) : Type 0 where
  pub base : base_of leg.window ≤ 2 ^ 30 + window_size
  pub is_open : leg.window.ended ≡ false → (other_queue s c k).ended ≡ false
  pub client_room : length c.kept + debt lane + 2 * open_places leg.window ≤ queue_size
  pub controller_room : length k.kept + debt lane + 2 * open_places leg.window ≤ queue_size
  pub client_limit : queue_length c ≤ 2 ^ 30
  pub controller_limit : queue_length k ≤ 2 ^ 30
  pub commands : lane.admitted + lane.refused < 2 ^ 40

-- what a packet does to the room, whatever came before
pub record KeepsRoom (s : Side) (old new : Window) (lane lane' : LaneValue) (c c' k k' : Queue) (cut : Option CutReason) : Type 0 where
  pub edge : new.edge ≡ old.edge
  pub base : base_of new ≤ base_of old + window_size
  pub rest : cut ≡ None → length old.pending < rest_limit → length new.pending < rest_limit
  pub ended : old.ended ≡ true → new.ended ≡ true
  pub done : old.ended ≡ true → cut ≡ None
  pub client_room : length c'.kept + debt lane' + 2 * open_places new ≤ length c.kept + debt lane + 2 * open_places old
  pub controller_room : length k'.kept + debt lane' + 2 * open_places new ≤ length k.kept + debt lane + 2 * open_places old
  pub commands : lane'.admitted + lane'.refused + old.consumed ≤ lane.admitted + lane.refused + new.consumed
  pub owed : debt lane ≤ most_owed → debt lane' ≤ most_owed
  pub own_ended : (own_queue s c' k').ended ≡ (own_queue s c k).ended
  pub other_ended : new.ended ≡ false → (other_queue s c' k').ended ≡ (other_queue s c k).ended
  pub other_pushed : OnlyPushed (other_queue s c k) (other_queue s c' k')
  -- after End nothing comes
  pub still : old.ended ≡ true → (base_of new ≡ base_of old) × (queue_length c' ≡ queue_length c) × (queue_length k' ≡ queue_length k)

-- a packet of a side was heard after the earlier events of its leg, in an event, and its letters were handed over
pub record Hearing (s : Side) (ends : Ends) (site : SiteValue) (client : Endpoint) (now : ℕ) (e : LegEvent) (es : List LegEvent)
    (packet : PacketValue) (rests : Rests) (earlier : List Element) (before : Work)
    (leg : LegValue) (lane : LaneValue) (to_client to_controller : Queue) (given : LegAnswer) (cut : Option CutReason) (old new : Told) :
    Type 0 where
  pub letters : Stream
  pub answer_is : given ≡ answer_to (end_state ends.role es e) packet
  pub leg_stands : IsLegBetween ends leg (own_queue s to_client to_controller) (record e { came = Packet packet; ending = Unspoken } ∷ es)
  pub taken_is : IsTaken (first_copy (offers ends.role (record e { came = Packet packet; ending = Unspoken } ∷ es)))
      (with_letters (taken s earlier) letters)
  pub unended : ended_of s earlier ≡ true → letter_count letters ≡ 0
  pub follows : FollowsMore site client now s (with_rest s rests leg.window.pending) earlier before letters lane to_client to_controller
      cut old new

-- ---- the same for a session

-- the event of a session that goes on from its first half with a packet of a side: its letters were taken, and the lane
-- made this work of all
abbrev pub heard_event : (half : SessionEvent) → (from : Side) → Stream → Work → Option CutReason → (came_controller came_client : Came)
    → (ending_controller ending_client : Ending) → SessionEvent
heard_event half from letters work cut came_controller came_client ending_controller ending_client = record {
  controller = record half.controller { came = came_controller; ending = ending_controller };
  client = record half.client { came = came_client; ending = ending_client };
  fed = fed_at (moment half.client) from letters;
  work = work;
  cut = cut;
}

-- what came on the client's leg before it is greeted
abbrev pub came_first : (from : Side) → PacketValue → Came
came_first side.Client packet = Packet packet
came_first side.Controller packet = Nothing

-- the event once the packet was heard
abbrev pub heard_half : (half : SessionEvent) → (from : Side) → PacketValue → Stream → Work → SessionEvent
heard_half half from packet letters work = heard_event half from letters work None (came_controller from packet) (came_first from packet)
    Unspoken Unspoken

-- the leg of a side
abbrev pub ends_of : Flow → Side → Ends
ends_of flow side.Client = client_ends flow
ends_of flow side.Controller = controller_ends flow

abbrev pub legs_of : Side → List SessionEvent → List LegEvent
legs_of side.Client events = clients events
legs_of side.Controller events = controllers events

abbrev pub leg_in : Side → SessionEvent → LegEvent
leg_in side.Client event = event.client
leg_in side.Controller event = event.controller

-- the first half of an event that did not cut the session
pub record IsHalf (half : SessionEvent) : Type 0 where
  pub controller_came : half.controller.came ≡ Nothing
  pub client_came : half.client.came ≡ Nothing
  pub controller_ending : half.controller.ending ≡ Unspoken
  pub client_ending : half.client.ending ≡ Unspoken
  pub one_tick : half.controller.tick ≡ half.client.tick
  pub fed : half.fed ≡ []
  pub uncut : half.work.cut ≡ None

-- a session heard a packet of a side
pub record HeardBy (flow : Flow) (earlier : List SessionEvent) (half : SessionEvent) (from : Side) (packet : PacketValue) (s : SessionValue)
    (given : LegAnswer) (cut : Option CutReason) (old new : Told) : Type 0 where
  pub letters : Stream
  pub work : Work
  pub parts : AreParts flow earlier (heard_half half from packet letters work) s
  pub answer_is : given ≡ answer_to (end_state (ends_of flow from).role (legs_of from earlier) (leg_in from half)) packet
  pub unended : ended_of from (history earlier) ≡ true → letter_count letters ≡ 0
  pub cut_is : work.cut ≡ cut
  pub lines : List (List ℕ)
  pub log_is : work.log ≡ half.work.log ++ lines
  pub told : new ≡ with_both old [] lines

-- no stream has as many letters as the limit
pub record IsShort (s : SessionValue) : Type 0 where
  pub client_letters : queue_length s.to_client < s.limit
  pub controller_letters : queue_length s.to_controller < s.limit
  pub client_taken : base_of s.client.window < s.limit
  pub controller_taken : base_of s.controller.window < s.limit

-- what holds of a session amid a call, whatever happened before; the lane cut it or not
pub record IsSteady (s : SessionValue) (cut : Option CutReason) : Type 0 where
  pub passive : IsPassive s.client.ends.role
  pub limit : s.limit ≤ 2 ^ 30
  pub client_base : base_of s.client.window ≤ 2 ^ 30 + window_size
  pub controller_base : base_of s.controller.window ≤ 2 ^ 30 + window_size
  pub client_rest : cut ≡ None → length s.client.window.pending < rest_limit
  pub controller_rest : cut ≡ None → length s.controller.window.pending < rest_limit
  pub client_open : s.client.window.ended ≡ false → s.to_controller.ended ≡ false
  pub controller_open : s.controller.window.ended ≡ false → s.to_client.ended ≡ false
  pub client_done : s.closed ≢ None → s.client.window.ended ≡ true
  pub controller_done : s.closed ≢ None → s.controller.window.ended ≡ true
  pub uncut : s.closed ≢ None → cut ≡ None
  pub short : s.closed ≢ None → IsShort s
  pub commands : s.lane.admitted + s.lane.refused ≤ s.client.window.consumed + s.controller.window.consumed
  pub owed : debt s.lane ≤ most_owed
  pub client_room : HasRoomFor s.to_client s
  pub controller_room : HasRoomFor s.to_controller s

-- ---- both legs speak

-- whether in both directions at most 16,384 letters are not acknowledged
abbrev pub is_roomy : SessionValue → Bool
is_roomy s = is_small s.to_client && is_small s.to_controller

-- the client is greeted with the number of the controller's SYN, where there is one
abbrev pub came_greeted : Flow → (number : Option ℕ) → Came → Came
came_greeted flow None came = came
came_greeted flow (Some number) came = Greeting (syn_ack_for (client_ends flow) flow.syn.seq number)

abbrev pub greetings : Flow → (number : Option ℕ) → List PacketValue
greetings flow None = []
greetings flow (Some number) = syn_ack_for (client_ends flow) flow.syn.seq number ∷ []

-- a leg that may be greeted: it was not yet, and nothing came from it in the event
abbrev pub MayGreet : (number : Option ℕ) → LegEvent → List LegEvent → Type 0
MayGreet None event earlier = Unit {0}
MayGreet (Some number) event earlier = (event.came ≡ Nothing) × (is_greeted earlier ≡ false)

-- the client's leg stands for the events with the greeting, which went out
pub record GreetsClient (flow : Flow) (now : ℕ) (number : Option ℕ) (event : LegEvent) (earlier : List LegEvent) (s : SessionValue)
    (old new : Told) : Type 0 where
  pub stands : IsLegBetween (client_ends flow) s.client s.to_client
      (record event { came = came_greeted flow number event.came; ending = Unspoken } ∷ earlier)
  pub told : new ≡ with_both old (at now (greetings flow number)) []

-- both legs and the queues to their peers stand for these events and streams, and an event's speeches are still to come
pub record MaySpeak (flow : Flow) (controller client : LegEvent) (controllers clients : List LegEvent) (to_client to_controller : Stream)
    (s : SessionValue) : Type 0 where
  pub controller_stands : IsLegBetween (controller_ends flow) s.controller s.to_controller
      (record controller { ending = Unspoken } ∷ controllers)
  pub client_stands : IsLegBetween (client_ends flow) s.client s.to_client (record client { ending = Unspoken } ∷ clients)
  pub to_client_stands : IsQueueOf s.to_client to_client
  pub to_controller_stands : IsQueueOf s.to_controller to_controller

-- both legs spoke, the controller's first, and the client was greeted in between
pub record SaysBoth (flow : Flow) (now : ℕ) (number : Option ℕ) (controller : LegEvent) (controllers : List LegEvent) (client : LegEvent)
    (clients : List LegEvent)
    (to_client to_controller : Stream) (roomy : Bool) (s : SessionValue) (old new : Told) : Type 0 where
  pub outs_c : List PacketValue
  pub outs_d : List PacketValue
  pub controller_stands : IsLegBetween (controller_ends flow) s.controller s.to_controller
      (record controller { ending = Spoke to_controller roomy outs_c } ∷ controllers)
  pub client_stands : IsLegBetween (client_ends flow) s.client s.to_client
      (record client { came = came_greeted flow number client.came; ending = Spoke to_client roomy outs_d } ∷ clients)
  pub told : new ≡ with_both old (at now (outs_c ++ (greetings flow number ++ outs_d))) []

-- a session of which only these changed: of the windows the edges, of the queues what was sent
pub record OnlySpeaks (old new : SessionValue) : Type 0 where
  pub client_window : new.client.window ≡ record old.client.window { edge = new.client.window.edge }
  pub controller_window : new.controller.window ≡ record old.controller.window { edge = new.controller.window.edge }
  pub to_client : new.to_client ≡ record old.to_client { sent = new.to_client.sent }
  pub to_controller : new.to_controller ≡ record old.to_controller { sent = new.to_controller.sent }
  pub rest : new ≡ record old {
    client = new.client;
    controller = new.controller;
    to_client = new.to_client;
    to_controller =
        new.to_controller;
  }

-- the number to greet the client with: that of the SYN ACK that opened the controller's leg
abbrev pub number_by : (from : Side) → LegAnswer → (number : ℕ) → Option ℕ
number_by side.Client given number = None
number_by side.Controller given number = if has_opened given then Some number else None

-- ---- the closing

-- a queue has End, and its peer has acknowledged it
abbrev pub is_acknowledged : Queue → Bool
is_acknowledged q = q.ended && ((queue_length q - q.acked) == 0)

abbrev pub is_done_now : SessionValue → Bool
is_done_now s = (s.client.window.ended && s.controller.window.ended) && (is_acknowledged s.to_client && is_acknowledged s.to_controller)

-- the line of a session that closes now
abbrev pub closing_lines : SiteValue → SessionValue → (now : ℕ) → List (List ℕ)
closing_lines site s now =
    if is_done_now s && not (is_some s.closed) then line_about site.first s.source now (Close s.lane.admitted s.lane.refused) ∷ [] else []

-- ---- the same where the desk failed amid it: what is right to send and to log, of which the desk got a beginning

-- letters that are handed to the lane: the lines by which its work goes on
pub record FollowsAmid (site : SiteValue) (client : Endpoint) (now : ℕ) (s : Side) (earlier : List Element) (before : Work) (letters : Stream)
    (old new : DeskValue) : Type 0 where
  pub work : Work
  pub works : Works site client (earlier ++ fed_at now s letters) work
  pub lines : List (List ℕ)
  pub log_is : work.log ≡ before.log ++ lines
  pub amid : BreaksAmid [] lines old new

-- a packet of a side that is heard: its letters are taken, and handed over
pub record HearingAmid (s : Side) (ends : Ends) (site : SiteValue) (client : Endpoint) (now : ℕ) (e : LegEvent) (es : List LegEvent)
    (packet : PacketValue) (earlier : List Element) (before : Work)
    (old new : DeskValue) : Type 0 where
  pub letters : Stream
  pub taken_is : IsTaken (first_copy (offers ends.role (record e { came = Packet packet; ending = Unspoken } ∷ es)))
      (with_letters (taken s earlier) letters)
  pub unended : ended_of s earlier ≡ true → letter_count letters ≡ 0
  pub follows : FollowsAmid site client now s earlier before letters old new

-- a packet that a session heard and amid which the desk failed
pub record HeardAmid (flow : Flow) (earlier : List SessionEvent) (half : SessionEvent) (from : Side) (packet : PacketValue)
    (old new : DeskValue) : Type 0 where
  pub letters : Stream
  pub work : Work
  pub are_taken : AreTaken flow (heard_half half from packet letters work ∷ earlier)
  pub unended : ended_of from (history earlier) ≡ true → letter_count letters ≡ 0
  pub works : Works flow.site (client_of flow) (history (heard_half half from packet letters work ∷ earlier)) work
  pub lines : List (List ℕ)
  pub log_is : work.log ≡ half.work.log ++ lines
  pub amid : BreaksAmid [] lines old new

-- the speeches of both legs, and the greeting of the client in between
pub record SaysAmid (flow : Flow) (now : ℕ) (number : Option ℕ) (controller : LegEvent) (controllers : List LegEvent) (client : LegEvent)
    (clients : List LegEvent)
    (to_client to_controller : Stream) (roomy : Bool) (old new : DeskValue) : Type 0 where
  pub outs_c : List PacketValue
  pub outs_d : List PacketValue
  pub controller_right : IsRight (controller_ends flow) controllers (record controller { ending = Spoke to_controller roomy outs_c })
  pub client_right : IsRight (client_ends flow) clients
      (record client { came = came_greeted flow number client.came; ending = Spoke to_client roomy outs_d })
  pub amid : BreaksAmid (at now (outs_c ++ (greetings flow number ++ outs_d))) [] old new
