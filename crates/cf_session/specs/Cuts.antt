-- Why an event cuts a session: `clock_cut` and `packet_cut`. Places of one event stand in the order tick, packet, items, limit, and in
-- a tick the controller's leg stands before the client's.
use Rattle.std.specs.Prelude.{ℕ, nat_lt, not, Bool, true, false, ◌&&◌, if◌then◌else◌, List, ◌∷◌, Option, None, Some}
use Rattle.std.specs.Option.{option_or}
use Rattle.cf_audit.specs.declared.CutReason.{CutReason}
use Rattle.cf_audit.specs.declared.CutReason.TheVariants as reason
use Rattle.cf_lane.specs.Limit.{limit_cut}
use Rattle.cf_leg.specs.Event.{LegEvent, Came, Nothing, Greeting, Packet}
use Rattle.cf_leg.specs.Heard.{answer_to, end_state}
use Rattle.cf_leg.specs.Timer.{fires, tries}
use Rattle.cf_leg.specs.declared.LegAnswer.{LegAnswer}
use Rattle.cf_leg.specs.declared.LegAnswer.TheVariants as answer
use Rattle.cf_leg.specs.declared.Role.{Role}
use Rattle.cf_view.specs.declared.Side.TheVariants as side
use Rattle.cf_session.specs.Session.{Flow, SessionEvent, client_ends, clients, controller_ends, controllers, history, was_closed}

-- ---- the first half

-- a leg fires for the seventh time without an answer
abbrev pub gives_up : Role → (earlier : List LegEvent) → LegEvent → Bool
gives_up r earlier event = fires r earlier event && not (nat_lt (tries r earlier) 6)

-- why the first half cuts: an end that gives up, the controller's first
abbrev pub clock_cut : Flow → (earlier : List SessionEvent) → SessionEvent → Option CutReason
clock_cut flow earlier event =
    if gives_up (controller_ends flow).role (controllers earlier) event.controller then Some (reason.NoAnswer side.Controller)
    else if gives_up (client_ends flow).role (clients earlier) event.client then Some (reason.NoAnswer side.Client)
    else None

-- ---- the second half

-- the answer to a packet is that it resets
abbrev pub is_reset : LegAnswer → Bool
is_reset answer.Reset = true
is_reset _ = false

-- what came on a leg resets it
abbrev pub resets : Role → (earlier : List LegEvent) → LegEvent → Came → Bool
resets r earlier event Nothing = false
resets r earlier event (Greeting packet) = false
resets r earlier event (Packet packet) = is_reset (answer_to (end_state r earlier event) packet)

-- why a packet that resets its leg cuts
abbrev pub reset_cut : Flow → (earlier : List SessionEvent) → SessionEvent → Option CutReason
reset_cut flow earlier event =
    if resets (client_ends flow).role (clients earlier) event.client event.client.came then Some reason.ResetByClient
    else if resets (controller_ends flow).role (controllers earlier) event.controller event.controller.came then Some
    reason.ResetByController
    else None

-- a session that is not closed is cut at the first of these: the packet resets its leg, an item cuts, a stream is full
abbrev pub packet_cut : Flow → (limit : ℕ) → (earlier : List SessionEvent) → SessionEvent → Option CutReason
packet_cut flow limit earlier event =
    if was_closed flow earlier then None
    else option_or (reset_cut flow earlier event)
    (option_or event.work.cut (limit_cut limit (history (event ∷ earlier)) event.work.to_client event.work.to_controller))
