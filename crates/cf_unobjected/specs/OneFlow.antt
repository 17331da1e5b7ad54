-- Steps of the proof: what a watcher sees of one session: `OneFlowIsUnobjected`.
use Rattle.std.specs.Prelude.{◌≡◌, ◌+◌, ◌≤◌, ◌^◌, ◌++◌, ℕ, List, [], ◌∷◌, map, Option, None}
use Rattle.std.specs.List.{AllByRecursion}
use Rattle.cf_leg.specs.Event.{LegEvent, sent_in}
use Rattle.cf_packet.specs.Packet.{PacketValue}
use Rattle.cf_session.specs.Event.{AreEvents}
use Rattle.cf_session.specs.Laws.{AreUncutBefore}
use Rattle.cf_session.specs.Sent.{Sent}
use Rattle.cf_session.specs.Session.{Flow, SessionEvent, client_of, controllers}
use Rattle.cf_stream.specs.Stream.{letter_count}
use Rattle.cf_watch.specs.declared.flow.Conflict.{Conflict}
use Rattle.cf_unobjected.specs.Unobjected.{IsUnobjected}
use Rattle.cf_watch.specs.Carried.{Carried, HasBytes, HasConflict, top_of}
use Rattle.cf_watch.specs.Watched.{carried_by}

-- a packet, and the number of its record
pub record Numbered : Type 0 where
  pub number : ℕ
  pub packet : PacketValue

-- packets that were sent, with the numbers of their records
abbrev pub numbered_from : ℕ → List Sent → List Numbered
numbered_from number [] = []
numbered_from number (s ∷ later) = record { number = number; packet = s.packet } ∷ numbered_from (number + 1) later

-- what a flow carried, and then these packets
abbrev pub carried_on : (origin : ℕ) → List Carried → List Numbered → List Carried
carried_on origin carried [] = carried
carried_on origin carried (n ∷ ns) = carried_on origin (carried_by n.number origin (top_of carried) n.packet ∷ carried) ns

-- all segments of an end, the oldest first
abbrev pub packets_of : List LegEvent → List PacketValue
packets_of [] = []
packets_of (e ∷ es) = packets_of es ++ (e.fired ++ sent_in e)

-- a flow carried the segments of a session to its controller, and before them packets without letters: those of sessions that were
-- never answered
pub record CarriedSession (flow : Flow) (events : List SessionEvent) (carried : List Carried) : Type 0 where
  pub silent : List Carried
  pub are_silent : AllByRecursion (λ c. letter_count c.text ≡ 0) silent
  pub heard : List Numbered
  pub packets : map (λ n. n.packet) heard ≡ packets_of (controllers events)
  pub is : carried ≡ carried_on flow.syn.seq silent heard

-- no conflict, and no objection to its bytes, whatever records they came with
pub record HasNoObjection (flow : Flow) (carried : List Carried) : Type 0 where
  pub no_conflict : (conflict : Option Conflict) → HasConflict carried conflict → conflict ≡ None
  pub unobjected : (bytes born : List ℕ) → HasBytes carried bytes → IsUnobjected flow.site (client_of flow).address bytes born

abbrev pub OneFlowIsUnobjected : Type 0
OneFlowIsUnobjected =
    (flow : Flow) (limit : ℕ) (events : List SessionEvent) (carried : List Carried) → limit ≤ 2 ^ 30 → AreEvents flow limit events →
    AreUncutBefore events → CarriedSession flow events carried → HasNoObjection flow carried
