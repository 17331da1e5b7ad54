-- What holds over every list of right events of a session. The main definitions are `EventsAreFixed`, `FirstCopiesAreTaken`,
-- `WorkIsOfTheTaken` and `HasOneStream`.
use Rattle.std.specs.Prelude.{◌≡◌, ℕ, ◌+◌, ◌^◌, ◌≤◌, min, true, false, List, [], ◌∷◌, ◌++◌, length, map, slice_get, Option, None, Some, ℤ}
use Rattle.cf_leg.specs.Event.{Came, Greeting, LegEvent, Nothing, Packet, sent_in}
use Rattle.cf_leg.specs.Heard.{opened, shown}
use Rattle.cf_leg.specs.OneStream.{IsOneStream}
use Rattle.cf_leg.specs.Segment.{letters_in}
use Rattle.cf_leg.specs.Told.{letters_sent, letters_sent_at, letters_sent_by, own_number}
use Rattle.cf_leg.specs.declared.Role.{Role}
use Rattle.cf_packet.specs.Packet.{PacketValue}
use Rattle.cf_stream.specs.Position.{position}
use Rattle.cf_stream.specs.Stream.{End, Extends, Letter, Stream, letter_count, letter_from, letters}
use Rattle.cf_session.specs.Event.{AreEvents, AreTaken, IsTick}
use Rattle.cf_session.specs.Session.{Flow, SessionEvent, client_ends, client_of, clients, controller_ends, controllers, history, is_expired}
use Rattle.cf_session.specs.Session.{work_of}
use Rattle.cf_session.specs.Work.{Works}

-- ---- isolation: a session's packets and their moments fix all that it sends and logs

-- the packet that came on a leg, if one did
abbrev pub packet_in : Came → Option PacketValue
packet_in Nothing = None
packet_in (Greeting packet) = None
packet_in (Packet packet) = Some packet

-- what an event is given: its moment, and the packet of one side or none
pub record Given : Type 0 where
  pub tick : ℕ
  pub from_client : Option PacketValue
  pub from_controller : Option PacketValue

-- what an event is given, by its two ends
abbrev pub given : SessionEvent → Given
given event = record {
  tick = event.client.tick;
  from_client = packet_in event.client.came;
  from_controller = packet_in
      event.controller.came;
}

-- two lists of right events of one flow that are given the same are the same, whatever else the box did
abbrev pub EventsAreFixed : Type 0
EventsAreFixed =
    (flow : Flow) (limit : ℕ) (xs ys : List SessionEvent) → AreEvents flow limit xs → AreEvents flow limit ys → map given xs ≡ map given ys
    → xs ≡ ys

-- ---- what was taken of both sides is so by first copies, and what a lane made of a session is of all of that

abbrev pub FirstCopiesAreTaken : Type 0
FirstCopiesAreTaken = (flow : Flow) (limit : ℕ) (events : List SessionEvent) → AreEvents flow limit events → AreTaken flow events

abbrev pub WorkIsOfTheTaken : Type 0
WorkIsOfTheTaken =
    (flow : Flow) (limit : ℕ) (events : List SessionEvent) → AreEvents flow limit events
    → Works flow.site (client_of flow) (history events) (work_of events)

-- ---- one stream: whatever copies of letters a receiver takes, it gets a beginning of the stream to it

-- what a segment carries: letters from a place on
pub record Part : Type 0 where
  pub at : ℤ
  pub text : Stream

-- the parts of segments. The place of a sequence number is read near the number of letters sent before it
abbrev pub parts_in : (own sent : ℕ) → List PacketValue → List Part
parts_in own sent [] = []
parts_in own sent (p ∷ ps) = record { at = position p.seq own sent; text = letters_in p } ∷ parts_in own (letters_sent_by own sent p) ps

-- the parts of all segments of an end
abbrev pub parts_of : Role → List LegEvent → List Part
parts_of r [] = []
parts_of r (e ∷ es) =
    parts_of r es ++ (parts_in (own_number r es) (letters_sent r es) e.fired ++ parts_in (own_number r (e ∷ es)) (letters_sent_at r es e)
    (sent_in e))

-- a letter that one of the parts has at this place
pub record HasLetter (parts : List Part) (place : ℕ) (letter : Letter) : Type 0 where
  pub index : ℕ
  pub part : Part
  pub is : slice_get parts index ≡ Some part
  pub has : letter_from part.at part.text place ≡ Some letter

-- each letter is one that some part has at its place, and nothing follows End
pub record IsReassembly (parts : List Part) (taken : List Letter) : Type 0 where
  pub each : (place : ℕ) (letter : Letter) → slice_get taken place ≡ Some letter → HasLetter parts place letter
  pub end : (place : ℕ) → slice_get taken place ≡ Some End → length taken ≡ place + 1

-- what is put together of some segments is put together of these and more: so what is sent amid an event gives no more than all
-- that the event sends
abbrev pub FewerPartsAreEnough : Type 0
FewerPartsAreEnough = (parts more : List Part) (taken : List Letter) → IsReassembly parts taken → IsReassembly (parts ++ more) taken

-- the letters of the stream begin with these
pub record IsFront (whole : Stream) (taken : List Letter) : Type 0 where
  pub more : List Letter
  pub is : letters whole ≡ taken ++ more

-- events of which none cuts the session
abbrev pub AreUncut : List SessionEvent → Type 0
AreUncut [] = Unit {0}
AreUncut (event ∷ earlier) = (event.cut ≡ None) × AreUncut earlier

-- events of which none but perhaps the newest cuts the session
abbrev pub AreUncutBefore : List SessionEvent → Type 0
AreUncutBefore [] = Unit {0}
AreUncutBefore (event ∷ earlier) = AreUncut earlier

-- each segment of an end carries the letters of one stream at its places, and the session's stream to its peer begins with that
pub record CarriesOneStream (role : Role) (events : List LegEvent) (whole : Stream) : Type 0 where
  pub said : Stream
  pub goes_on : Extends said whole
  pub one : IsOneStream said role events

-- the segments of every session towards the controller carry one stream, and those towards the client too
abbrev pub SegmentsCarryOneStream : Type 0
SegmentsCarryOneStream =
    (flow : Flow) (limit : ℕ) (events : List SessionEvent) → limit ≤ 2 ^ 30 → AreEvents flow limit events → AreUncutBefore events →
    CarriesOneStream (controller_ends flow).role (controllers events) (work_of events).to_controller
    × CarriesOneStream (client_ends flow).role (clients events) (work_of events).to_client

-- what either side puts together is a front of the stream to it
abbrev pub HasOneStream : Type 0
HasOneStream =
    (flow : Flow) (limit : ℕ) (events : List SessionEvent) (taken : List Letter) → limit ≤ 2 ^ 30 → AreEvents flow limit events
    → AreUncutBefore events →
    (IsReassembly (parts_of (controller_ends flow).role (controllers events)) taken → IsFront (work_of events).to_controller taken)
    × (IsReassembly (parts_of (client_ends flow).role (clients events)) taken → IsFront (work_of events).to_client taken)

-- ---- each session whose last event did not cut it has a first half of its next event

abbrev pub EachSessionHasATick : Type 0
EachSessionHasATick =
    (flow : Flow) (limit : ℕ) (earlier : List SessionEvent) (event : SessionEvent) (tick : ℕ) → AreEvents flow limit (event ∷ earlier)
    → event.cut ≡ None →
    is_expired flow (event ∷ earlier) tick ≡ false → (next : SessionEvent) × IsTick flow (event ∷ earlier) tick next

-- ---- how far: between two events each open end of such a session has sent all of its stream that its peer lets in

-- an open end sent as many letters as its stream has below the greatest edge shown
abbrev pub IsSentUpTo : Role → List LegEvent → Stream → Type 0
IsSentUpTo r es stream = opened r es ≡ true → letters_sent r es ≡ min (shown r es) (letter_count stream)

abbrev pub SendsWhatIsLetIn : Type 0
SendsWhatIsLetIn =
    (flow : Flow) (limit : ℕ) (earlier : List SessionEvent) (event : SessionEvent) → limit ≤ 2 ^ 30 → AreEvents flow limit (event ∷ earlier)
    → event.cut ≡ None →
    IsSentUpTo (controller_ends flow).role (controllers (event ∷ earlier)) event.work.to_controller
    × IsSentUpTo (client_ends flow).role (clients (event ∷ earlier)) event.work.to_client
