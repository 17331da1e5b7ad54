-- Steps of the proof: what the calls of a leg do: `Clocked`, `Heard`, `Spoken`, `Greeted` and `CutOff`, and what stands where the desk
-- broke one off.
use Rattle.std.specs.Prelude.{◌≡◌, ℕ, ◌+◌, ◌%◌, ◌^◌, ◌-◌, ◌<◌, nat_lt, nat_le, ◌≤◌, min, max, not, ◌&&◌, ◌||◌, if◌then◌else◌, Bool, true}
use Rattle.std.specs.Prelude.{false, List, [], ◌∷◌, ◌++◌, length, Option, Some, None, ℤ, pos, ◌+ℤ◌}
use Rattle.cf_outside.specs.Desk.{DeskValue, SentValue}
use Rattle.cf_outq.specs.SendQueue.{Queue, carried, queue_length, after_acked, after_shown}
use Rattle.cf_outq.specs.SendQueue.{IsQueueOf}
use Rattle.cf_outq.specs.declared.Piece.{Piece}
use Rattle.cf_packet.specs.Packet.{PacketValue}
use Rattle.cf_stream.specs.Position.{place_or_zero, sequence_number}
use Rattle.cf_stream.specs.Sizes.{window_size}
use Rattle.cf_stream.specs.Stream.{Stream, Extends, no_letters}
use Rattle.cf_leg.specs.Emits.{IsRight, Pieces, SaysIf, rst, send_mss, differs, to_tell, syn, syn_ack_for, piece}
use Rattle.cf_leg.specs.Event.{Cut, Greeting, Nothing, Packet, Unspoken, Spoke, LegEvent, clocked, moment, stream_after, is_settled}
use Rattle.cf_leg.specs.LegValue.{Marks, LegValue, IsLegOf, is_open, arms, marks, told_of, way_at}
use Rattle.cf_leg.specs.Timer.{clock_answer, second}
use Rattle.cf_rebuild.specs.ReceiveWindow.{Window, base_of, unread}
use Rattle.cf_rebuild.specs.ReceiveWindow.{IsWindowOf}
use Rattle.cf_stream.specs.FirstCopy.{IsTaken, Offer, first_copy}
use Rattle.cf_leg.specs.Heard.{ack_place, answer_to, end_state, offers, text_place}
use Rattle.cf_leg.specs.declared.ends.LegAnswer.{LegAnswer}
use Rattle.cf_leg.specs.declared.ends.Phase.{Phase}
use Rattle.cf_leg.specs.declared.ends.Phase.TheVariants as phase
use Rattle.cf_leg.specs.declared.ends.EndState.{EndState}
use Rattle.cf_leg.specs.Emitted.{AllOrFirst, BreaksOff, GetsSegments, with_segments}
use Rattle.cf_leg.specs.Segment.{letters_in, segment}
use Rattle.cf_leg.specs.declared.ends.ClockAnswer.{ClockAnswer}
use Rattle.cf_leg.specs.declared.ends.ClockAnswer.TheVariants as answers
use Rattle.cf_leg.specs.declared.ends.Ends.{Ends}
use Rattle.cf_leg.specs.declared.ends.Role.{Role}
use Rattle.cf_leg.specs.declared.ends.Role.TheVariants as role
use Rattle.cf_leg.specs.declared.ends.Advertised.{Advertised}
use Rattle.cf_leg.specs.declared.ends.Way.{Way}

-- the letters of a piece went out in a segment, or the desk failed amid it
pub record SendsPiece (way : Way) (t : Advertised) (queue : Queue) (piece : Piece) (now : ℕ) (old new : DeskValue) (failed : Bool) : Type 0
  where
    pub text : List ℕ
    pub gets : GetsSegments failed now (segment way t (sequence_number way.own (place_or_zero piece.at))
        (record { bytes = text; ended = piece.end }) ∷ []) old new
    pub carries : (whole : Stream) → IsQueueOf queue whole → text ≡ (carried whole piece).bytes

-- some pieces went out, and so many letters were sent then
pub record SendsSome (way : Way) (t : Advertised) (mss : ℕ) (queue : Queue) (sent : ℕ) (now : ℕ) (old new : Option (List SentValue)) : Type
    0 where
  pub outs : List PacketValue
  pub packets : new ≡ with_segments old now outs
  pub none : sent ≡ queue.sent → outs ≡ []
  pub pieces : (whole : Stream) → IsQueueOf queue whole → (more : List PacketValue) → Pieces way t whole mss queue.shown sent more
      → Pieces way t whole mss queue.shown queue.sent (outs ++ more)

-- what was not sent and is let in went out in pieces, or the desk failed amid them
pub record SendsNew (way : Way) (t : Advertised) (mss : ℕ) (queue : Queue) (now : ℕ) (old new : DeskValue) (failed : Bool) : Type 0 where
  pub outs : List PacketValue
  pub gets : GetsSegments failed now outs old new
  pub none : min queue.shown (queue_length queue) ≤ queue.sent → (failed ≡ false) × (outs ≡ [])
  pub pieces : (whole : Stream) → IsQueueOf queue whole → AllOrFirst failed (Pieces way t whole mss queue.shown queue.sent) outs

-- the peer of an open leg was told something, and got what it lets in: every new letter, or an acknowledgment if there is
-- none and one is due; or the desk failed amid that
pub record SaysTo (way : Way) (t : Advertised) (mss : ℕ) (owes : Bool) (queue : Queue) (now : ℕ) (old new : DeskValue) (failed : Bool) :
    Type 0 where
  pub outs : List PacketValue
  pub gets : GetsSegments failed now outs old new
  pub says : (whole : Stream) → IsQueueOf queue whole → AllOrFirst failed (SaysIf way t owes whole mss queue.shown queue.sent) outs

-- the leg said what it has to say, if it is open
pub record Addressed (roomy : Bool) (now : ℕ) (old new : LegValue) (queue queue' : Queue) (before after : Option (List SentValue)) : Type 0
  where
    pub outs : List PacketValue
    pub packets : after ≡ with_segments before now outs
    pub says : is_open old.phase ≡ true → (whole : Stream) → IsQueueOf queue whole
        → SaysIf (way_at old) (to_tell (told_of old) (base_of old.window) roomy)
        (old.owes || differs (told_of old) (to_tell (told_of old) (base_of old.window) roomy))
        whole old.mss queue.shown queue.sent outs
    pub leg : is_open old.phase ≡ true
        → new ≡ record old {
          base = base_of old.window;
          window = record old.window
              { edge = (to_tell (told_of old) (base_of old.window) roomy).edge };
          owes = false;
        }
    pub sent : is_open old.phase ≡ true → queue' ≡ record queue { sent = max queue.sent (min queue.shown (queue_length queue)) }
    pub silent : is_open old.phase ≡ false → outs ≡ []
    pub same : is_open old.phase ≡ false → new ≡ old
    pub kept : is_open old.phase ≡ false → queue' ≡ queue

-- the timer after a speech: it starts where something is unanswered and it did not run
abbrev pub rearmed : LegValue → Queue → ℕ → LegValue
rearmed leg q now = record leg {
  running = arms leg.phase q;
  deadline = if arms leg.phase q && not leg.running then now
      + second else leg.deadline;
  owes = false;
}

-- the leg spoke: it stands for the events with the speech
pub record Spoken (roomy : Bool) (now : ℕ) (old new : LegValue) (queue queue' : Queue) (before after : Option (List SentValue)) : Type 0
  where
    pub outs : List PacketValue
    pub packets : after ≡ with_segments before now outs
    pub stands : (e : LegEvent) (es : List LegEvent) (whole : Stream) → now ≡ moment e
        → IsLegOf old (marks queue) (record e { ending = Unspoken } ∷ es) → IsQueueOf queue whole
        → IsLegOf new (marks queue') (record e { ending = Spoke whole roomy outs } ∷ es)

-- the SYN or the SYN ACK of a leg
abbrev pub greeting_as : Ends → ℕ → ℕ → Role → PacketValue
greeting_as ends own other (role.Active n) = syn ends own
greeting_as ends own other (role.Passive n mss) = syn_ack_for ends other own

abbrev pub greeting_of : LegValue → PacketValue
greeting_of leg = greeting_as leg.ends leg.own leg.other leg.ends.role

-- the oldest letters went out again, or a probe
abbrev pub oldest : LegValue → Queue → Stream → PacketValue
oldest leg q whole =
    if nat_lt q.acked q.sent
    then segment (way_at leg) (told_of leg) (sequence_number leg.own q.acked) (piece whole leg.mss q.sent q.acked)
    else segment (way_at leg) (told_of leg) ((leg.own + q.acked) % 2 ^ 32) no_letters

-- a send of the oldest segment that went out, or amid which the desk failed
pub record SendsOldest (leg : LegValue) (queue : Queue) (now : ℕ) (before after : DeskValue) (failed : Bool) : Type 0 where
  pub out : PacketValue
  pub gets : GetsSegments failed now (out ∷ []) before after
  pub is : (whole : Stream) → IsQueueOf queue whole → out ≡ oldest leg queue whole

abbrev pub answer_oldest : Queue → ClockAnswer
answer_oldest queue = if nat_lt queue.acked queue.sent then answers.Repeated else answers.Probed

-- what was sent last went out again, or the desk failed amid it
pub record SendsAgain (leg : LegValue) (queue : Queue) (now : ℕ) (before after : DeskValue) (failed : Bool) : Type 0 where
  pub out : PacketValue
  pub gets : GetsSegments failed now (out ∷ []) before after
  pub open_is : is_open leg.phase ≡ true → (whole : Stream) → IsQueueOf queue whole → out ≡ oldest leg queue whole
  pub first_is : is_open leg.phase ≡ false → out ≡ greeting_of leg

abbrev pub answer_again : LegValue → Queue → ClockAnswer
answer_again leg queue = if is_open leg.phase then answer_oldest queue else answers.Repeated

-- the leg fires
abbrev pub is_due : LegValue → ℕ → Bool
is_due leg now = leg.running && nat_le leg.deadline now

-- the moment from which on a clock call does something; the greatest number where none will
abbrev pub due_of : LegValue → ℕ
due_of leg = if leg.running then leg.deadline else 2 ^ 64 - 1

-- a clock call at a moment did this; the leg stands for the events with one that has just begun
pub record Clocked (now : ℕ) (old new : LegValue) (queue : Queue) (given : ClockAnswer) (before after : Option (List SentValue)) : Type 0
  where
    pub outs : List PacketValue
    pub packets : after ≡ with_segments before now outs
    pub stands : (es : List LegEvent) → is_settled es ≡ true → IsLegOf old (marks queue) es → IsQueueOf queue (stream_after es)
        → IsLegOf new (marks queue) (clocked now outs ∷ es)
    pub answer : (es : List LegEvent) → is_settled es ≡ true → IsLegOf old (marks queue) es → IsQueueOf queue (stream_after es)
        → given ≡ clock_answer old.ends.role es (clocked now outs)

-- a clock call before it is due is quiet, and leaves the leg as it is
abbrev pub AreQuietBeforeDue : Type 0
AreQuietBeforeDue = (leg : LegValue) (queue : Queue) (now : ℕ) (before : Option (List SentValue)) → now < due_of leg
    → Clocked now leg leg queue answers.Quiet before before

-- ---- a packet

abbrev pub is_greeted_phase : Phase → Bool
is_greeted_phase phase.Made = false
is_greeted_phase phase.Greeted = true
is_greeted_phase phase.Open = true

-- the leg as a packet finds it
abbrev pub end_state_of : LegValue → Queue → EndState
end_state_of leg q = record {
  role = leg.ends.role;
  is_greeted = is_greeted_phase leg.phase;
  is_open = is_open leg.phase;
  own = leg.own;
  other = leg.other;
  told = told_of leg;
  sent = q.sent;
}

-- what the SYN ACK of a peer says; a passive leg knows it from the SYN
abbrev pub other_by : Role → ℕ → PacketValue → ℕ
other_by (role.Active own) other p = p.seq
other_by (role.Passive n mss) other p = other

abbrev pub mss_by : Role → ℕ → PacketValue → ℕ
mss_by (role.Active own) mss p = send_mss p.mss
mss_by (role.Passive n m) mss p = mss

abbrev pub edge_by : Role → ℕ → PacketValue → ℕ
edge_by (role.Active own) edge p = max edge p.window
edge_by (role.Passive n mss) edge p = edge

-- the leg and its queue once a packet opened it, or did not
abbrev pub leg_opened : Bool → LegValue → PacketValue → LegValue
leg_opened false leg p = leg
leg_opened true leg p = record leg {
  phase = phase.Open;
  fired = 0;
  other = other_by leg.ends.role leg.other p;
  mss = mss_by leg.ends.role
      leg.mss p;
  shown = edge_by leg.ends.role leg.shown p;
}

abbrev pub queue_opened : Bool → Role → Queue → PacketValue → Queue
queue_opened false r q p = q
queue_opened true r q p = record q { shown = edge_by r q.shown p }

-- a packet that counts acknowledges a letter or shows a greater edge
abbrev pub rises_by : ℕ → ℕ → ℤ → ℕ → Bool
rises_by acked shown ack window = nat_lt acked (max acked (place_or_zero ack))
    || nat_lt shown (max shown (place_or_zero (ack +ℤ pos window)))

-- the leg and its queue once a packet counted, or did not
abbrev pub leg_counted : Bool → LegValue → Window → ℕ → ℤ → ℕ → ℕ → LegValue
leg_counted false leg window acked ack size now = leg
leg_counted true leg window acked ack size now =
    record leg {
      window = window;
      shown = max leg.shown (place_or_zero (ack +ℤ pos size));
      fired = 0;
      deadline = if rises_by acked leg.shown
          ack size then now + second else leg.deadline;
    }

abbrev pub queue_counted : Bool → Queue → ℤ → ℕ → Queue
queue_counted false q ack size = q
queue_counted true q ack size = after_shown (after_acked q ack) (ack +ℤ pos size)

-- what was taken stays so, nothing is consumed, and the edge stays
pub record Continues (old new : Window) : Type 0 where
  pub unread : Extends (unread old) (unread new)
  pub consumed : new.consumed ≡ old.consumed
  pub edge : new.edge ≡ old.edge

pub record Counts (counted : Bool) (at : EndState) (now : ℕ) (p : PacketValue) (old new : LegValue) (queue queue' : Queue) : Type 0 where
  pub leg : new ≡ leg_counted counted old new.window queue.acked (ack_place at p) p.window now
  pub moved : queue' ≡ queue_counted counted queue (ack_place at p) p.window
  pub window : counted ≡ true → (os : List Offer) → IsWindowOf old.window os
      → IsWindowOf new.window (record { at = text_place at p; text = letters_in p; edge = old.window.edge } ∷ os)
  pub edge : new.window.edge ≡ old.window.edge

-- the packet was heard: the leg stands for the events with the packet
pub record Heard (now : ℕ) (p : PacketValue) (old new : LegValue) (queue queue' : Queue) (given : LegAnswer) : Type 0 where
  pub answer : (e : LegEvent) (es : List LegEvent) → IsLegOf old (marks queue) (record e { came = Nothing; ending = Unspoken } ∷ es)
      → given ≡ answer_to (end_state old.ends.role es e) p
  pub stands : (e : LegEvent) (es : List LegEvent) → now ≡ moment e
      → IsLegOf old (marks queue) (record e { came = Nothing; ending = Unspoken } ∷ es)
      → IsLegOf new (marks queue') (record e { came = Packet p; ending = Unspoken } ∷ es)

-- a list and more letters after its own
abbrev pub with_letters : Stream → Stream → Stream
with_letters s more = record { bytes = s.bytes ++ more.bytes; ended = if more.ended then true else s.ended }

-- letters that the packet has taken: they are pending now, and what is taken goes on by them
pub record Newly (now : ℕ) (p : PacketValue) (old new : LegValue) (queue : Queue) : Type 0 where
  pub letters : Stream
  pub pending : new.window.pending ≡ old.window.pending ++ letters.bytes
  pub ended : new.window.ended ≡ (old.window.ended || letters.ended)
  pub taken : (e : LegEvent) (es : List LegEvent) (t : Stream) → now ≡ moment e
      → IsLegOf old (marks queue) (record e { came = Nothing; ending = Unspoken } ∷ es)
      → IsTaken (first_copy (offers old.ends.role es)) t
      → IsTaken (first_copy (offers old.ends.role (record e { came = Packet p; ending = Unspoken } ∷ es))) (with_letters t letters)

-- ---- the greeting

abbrev pub window_by : Role → Window → Window
window_by (role.Active own) w = w
window_by (role.Passive other mss) w = record w { edge = window_size }

abbrev pub greeted_as : LegValue → ℕ → ℕ → LegValue
greeted_as leg number now = record leg {
  own = number;
  phase = phase.Greeted;
  deadline = now + second;
  window = window_by leg.ends.role
      leg.window;
}

-- the SYN or the SYN ACK with a number
abbrev pub greeting_by : LegValue → ℕ → PacketValue
greeting_by leg number = greeting_as leg.ends number leg.other leg.ends.role

-- the leg greeted with a number, or the desk failed amid that: it stands for the events with the greeting
pub record Greeted (now number : ℕ) (old new : LegValue) (before after : DeskValue) (failed : Bool) : Type 0 where
  pub gets : GetsSegments failed now (greeting_by old number ∷ []) before after
  pub stands : (m : Marks) (e : LegEvent) (es : List LegEvent) → now ≡ moment e
      → IsLegOf old m (record e { came = Nothing; ending = Unspoken } ∷ es)
      → IsLegOf new m (record e { came = Greeting (greeting_by old number); ending = Unspoken } ∷ es)

-- a number that an end may greet with
abbrev pub IsOwn : Role → ℕ → Type 0
IsOwn (role.Active own) number = number ≡ own
IsOwn (role.Passive other mss) number = Unit {0}

-- ---- a new leg

pub record IsMade (ends : Ends) (own other mss : ℕ) (leg : LegValue) : Type 0 where
  pub parts : leg ≡ record {
    ends = ends;
    phase = phase.Made;
    own = own;
    other = other;
    mss = mss;
    window = leg.window;
    base = 0;
    shown = 0;
    owes = false;
    running = false;
    deadline = 0;
    fired = 0;
  }
  pub edge : leg.window.edge ≡ 0
  pub window : IsWindowOf leg.window []

abbrev pub no_marks : Marks
no_marks = record { acked = 0; sent = 0; shown = 0 }

-- ---- a cut

abbrev pub rst_as : LegValue → Queue → Role → PacketValue
rst_as leg q (role.Active n) =
    if is_open leg.phase then rst leg.ends (sequence_number leg.own q.sent) (sequence_number leg.other (base_of leg.window)) 20
    else rst leg.ends (sequence_number leg.own 0) 0 4
rst_as leg q (role.Passive n mss) =
    if is_greeted_phase leg.phase then rst leg.ends (sequence_number leg.own q.sent) (sequence_number leg.other (base_of leg.window)) 20
    else rst leg.ends 0 (sequence_number leg.other 0) 20

abbrev pub rst_of : LegValue → Queue → PacketValue
rst_of leg q = rst_as leg q leg.ends.role

-- the leg was cut, or the desk failed amid that: the RST is right after the events
pub record CutOff (now : ℕ) (leg : LegValue) (queue : Queue) (old new : DeskValue) (failed : Bool) : Type 0 where
  pub gets : GetsSegments failed now (rst_of leg queue ∷ []) old new
  pub right : (e : LegEvent) (es : List LegEvent) → IsLegOf leg (marks queue) (record e { ending = Unspoken } ∷ es)
      → IsRight leg.ends es (record e { ending = Cut (rst_of leg queue) })

-- the number of the peer's SYN, where it was seen
abbrev pub origin_as : Role → Phase → ℕ → Option ℕ
origin_as (role.Active n) p other = if is_open p then Some other else None
origin_as (role.Passive n mss) p other = Some other

-- an open leg's peer was told how many letters are taken, and an edge; nothing else of the window changed
pub record IsTold (roomy : Bool) (before : Window) (leg : LegValue) : Type 0 where
  pub base : leg.base ≡ base_of before
  pub window : leg.window ≡ record before { edge = if roomy then base_of before + window_size else before.edge }

-- ---- what hangs on no history

-- the list of a queue is the same, and no more of it is kept
pub record KeepsList (old new : Queue) : Type 0 where
  pub pushed : new.pushed ≡ old.pushed
  pub ended : new.ended ≡ old.ended
  pub kept : length new.kept ≤ length old.kept

-- a window of which only the edge was moved, and only where there is room; it lies near the base
pub record Widens (roomy : Bool) (old new : Window) : Type 0 where
  pub same : new ≡ record old { edge = new.edge }
  pub shut : roomy ≡ false → new.edge ≡ old.edge
  pub near : new.edge ≤ base_of old + window_size

-- ---- calls that the desk broke off: each sent the first segments of a list that it may send, of which a beginning of the
-- next one stands after them

-- what an open leg says
pub record AddressBreaks (roomy : Bool) (now : ℕ) (old : LegValue) (queue : Queue) (before after : DeskValue) : Type 0 where
  pub is_open : is_open old.phase ≡ true
  pub says : SaysTo (way_at old) (to_tell (told_of old) (base_of old.window) roomy) old.mss
      (old.owes || differs (told_of old) (to_tell (told_of old) (base_of old.window) roomy)) queue now before after true

-- the speech of an event
pub record SpeechBreaks (roomy : Bool) (now : ℕ) (ends : Ends) (e : LegEvent) (es : List LegEvent) (whole : Stream)
    (before after : DeskValue) : Type 0 where
  pub outs : List PacketValue
  pub right : IsRight ends es (record e { ending = Spoke whole roomy outs })
  pub breaks : BreaksOff now outs before after

-- the speech of each event and each list that the leg and its queue stand for
abbrev pub SpeakingBreaks : Bool → ℕ → LegValue → Queue → DeskValue → DeskValue → Type 0
SpeakingBreaks roomy now old queue before after = (e : LegEvent) (es : List LegEvent) (whole : Stream) → now ≡ moment e
    → IsLegOf old (marks queue) (record e { ending = Unspoken } ∷ es) → IsQueueOf queue whole
    → SpeechBreaks roomy now old.ends e es whole before after

-- the repeat or the probe of a clock call
pub record ClockBreaks (now : ℕ) (leg : LegValue) (queue : Queue) (before after : DeskValue) : Type 0 where
  pub out : PacketValue
  pub breaks : BreaksOff now (out ∷ []) before after
  pub right : (es : List LegEvent) → is_settled es ≡ true → IsLegOf leg (marks queue) es → IsQueueOf queue (stream_after es)
      → IsRight leg.ends es (clocked now (out ∷ []))
