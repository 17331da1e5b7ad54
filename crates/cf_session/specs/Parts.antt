-- Steps of the proof: when the parts of a session in memory stand for its events: `AreParts`.
use Rattle.cf_lane.specs.Caller.{none_before}
use Rattle.std.specs.Prelude.{◌≡◌, ℕ, List, ◌∷◌, ◌-◌, max, Option}
use Rattle.cf_lane.specs.Follows.{AreRests, Rests}
use Rattle.cf_lane.specs.Handled.{Knows, LaneValue, state}
use Rattle.cf_lane.specs.History.{Element}
use Rattle.cf_lane.specs.Judged.{has_ended}
use Rattle.cf_leg.specs.Event.{LegEvent}
use Rattle.cf_leg.specs.LegValue.{IsLegOf, LegValue, marks}
use Rattle.cf_leg.specs.declared.Ends.{Ends}
use Rattle.cf_leg.specs.declared.Role.{Role}
use Rattle.cf_leg.specs.declared.Role.TheVariants as role
use Rattle.cf_outq.specs.SendQueue.{IsQueueOf, Queue}
use Rattle.cf_policy.specs.Site.{SiteValue}
use Rattle.cf_rebuild.specs.ReceiveWindow.{Window}
use Rattle.cf_stream.specs.Sizes.{window_size}
use Rattle.cf_view.specs.declared.Endpoint.{Endpoint}
use Rattle.cf_view.specs.declared.Side.{Side}
use Rattle.cf_view.specs.declared.Side.TheVariants as side
use Rattle.cf_session.specs.Event.{AreTaken}
use Rattle.cf_session.specs.Session.{Flow, SessionEvent, client_ends, client_of, clients, controller_ends, controllers, history}
use Rattle.cf_session.specs.Work.{Work, Works}

-- what a contract sees of a `Session`
pub record SessionValue : Type 0 where
  -- the ends towards the client and towards the controller, and the lane between them
  pub client : LegValue
  pub controller : LegValue
  pub lane : LaneValue
  -- what the two peers get
  pub to_client : Queue
  pub to_controller : Queue
  -- the moment at which it closed
  pub closed : Option ℕ
  -- how many letters cut it
  pub limit : ℕ
  -- the client
  pub source : Endpoint

-- a leg between these ends, and its queue, stand for these events, of which the newest may go on
pub record IsLegBetween (ends : Ends) (leg : LegValue) (queue : Queue) (events : List LegEvent) : Type 0 where
  pub is : leg.ends ≡ ends
  pub stands : IsLegOf leg (marks queue) events

-- the lane stands for a history, of which these bytes of each side are left, and this is the work of it
pub record IsLaneAfter (site : SiteValue) (client : Endpoint) (lane : LaneValue) (rests : Rests) (history : List Element) (work : Work) : Type
    0 where
  pub works : Works site client history work
  pub is_client : lane.client ≡ client
  pub are_rests : AreRests site.first.protocol history rests work.cut
  pub knows : (to_client to_controller : Queue) (log : Option (List (List ℕ))) →
      to_client.ended ≡ has_ended side.Controller works.judged → to_controller.ended ≡ has_ended side.Client works.judged →
      Knows site none_before (state lane to_client to_controller log) works.judged

-- the bytes of each side that are no whole unit stay pending in its window
abbrev pub rests : SessionValue → Rests
rests s = record { client = s.client.window.pending; controller = s.controller.window.pending }

-- legs, lane and queues stand for the events, of which the newest may go on
pub record AreParts (flow : Flow) (earlier : List SessionEvent) (event : SessionEvent) (s : SessionValue) : Type 0 where
  pub client : IsLegBetween (client_ends flow) s.client s.to_client (event.client ∷ clients earlier)
  pub controller : IsLegBetween (controller_ends flow) s.controller s.to_controller (event.controller ∷ controllers earlier)
  pub lane : IsLaneAfter flow.site (client_of flow) s.lane (rests s) (history (event ∷ earlier)) event.work
  pub to_client : IsQueueOf s.to_client event.work.to_client
  pub to_controller : IsQueueOf s.to_controller event.work.to_controller
  pub taken : AreTaken flow (event ∷ earlier)

-- the queue of the leg of a side, and that of the other leg
abbrev pub own_queue : Side → (to_client to_controller : Queue) → Queue
own_queue side.Client c k = c
own_queue side.Controller c k = k

abbrev pub other_queue : Side → (to_client to_controller : Queue) → Queue
other_queue side.Client c k = k
other_queue side.Controller c k = c

-- an end that was opened by its peer
abbrev pub IsPassive : Role → Type 0
IsPassive (role.Active own) = ⊥
IsPassive (role.Passive other mss) = Unit {0}

-- the places from the first byte that is not consumed up to the edge; before an end is open, up to the edge that it will show
-- first, 16,384
abbrev pub open_places : Window → ℕ
open_places w = max w.edge window_size - w.consumed
