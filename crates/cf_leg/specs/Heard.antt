-- What a packet is to a TCP end: `answer_to`. RFC 9293, section 3.10.7, and RFC 5961, sections 3 to 5, whose challenge ACKs also answer
-- segments that RFC 9293 would drop; where the two leave a choice, the rule is this project's own. A table of the
-- answers stands above `answer_to` in `src/heard.rt`.
use Rattle.std.specs.Prelude.{ℕ, ◌==◌, max, nat_lt, not, Bool, true, false, ◌&&◌, ◌||◌, if◌then◌else◌, List, [], ◌∷◌, ℤ, pos, ◌+ℤ◌, int_lt}
use Rattle.std.specs.Prelude.{int_le}
use Rattle.cf_packet.specs.Packet.{PacketValue}
use Rattle.cf_stream.specs.FirstCopy.{Offer}
use Rattle.cf_stream.specs.Position.{sequence_number, position, place_or_zero}
use Rattle.cf_leg.specs.Event.{Came, Packet, LegEvent}
use Rattle.cf_leg.specs.Segment.{has_syn, has_rst, has_ack, letters_in, letters_of}
use Rattle.cf_leg.specs.Told.{is_greeted, own_number, peer_number, answers_syn, told_at, letters_sent_at}
use Rattle.cf_leg.specs.declared.ends.EndState.{EndState}
use Rattle.cf_leg.specs.declared.ends.Advertised.{Advertised}
use Rattle.cf_leg.specs.declared.ends.Role.{Role}
use Rattle.cf_leg.specs.declared.ends.Role.TheVariants as role
use Rattle.cf_leg.specs.declared.ends.LegAnswer.{LegAnswer}
use Rattle.cf_leg.specs.declared.ends.LegAnswer.TheVariants as answer

-- the place at which a packet's letters begin
abbrev pub text_place : EndState → PacketValue → ℤ
text_place at p = position p.seq at.other at.told.base

-- up to which place a packet acknowledges
abbrev pub ack_place : EndState → PacketValue → ℤ
ack_place at p = position p.ack at.own at.sent

-- n letters from a place on are in reach: one of them lies in the window; or there is none, and the place is one from
-- the window's base to its edge. RFC 9293, section 3.10.7.4, table 6, is less generous to segments without letters
abbrev pub in_reach : Advertised → ℤ → ℕ → Bool
in_reach t at n =
    if n == 0 then int_le (pos t.base) at && int_le at (pos t.edge)
    else nat_lt t.base t.edge && (int_lt at (pos t.edge) && int_lt (pos t.base) (at +ℤ pos n))

-- the letters of a packet are in reach
abbrev pub is_in_reach : EndState → PacketValue → Bool
is_in_reach at p = in_reach at.told (text_place at p) (letters_of p)

-- the place is this number
abbrev pub is_at : ℤ → ℕ → Bool
is_at z n = int_le z (pos n) && int_le (pos n) z

-- the packet opens a leg that is not open
abbrev pub opens_as : Role → EndState → PacketValue → Bool
opens_as (role.Active own) at p = answers_syn at.own p
opens_as (role.Passive other mss) at p =
    has_ack p && (not (has_syn p || has_rst p) && (is_in_reach at p && is_at (ack_place at p) 0))

-- an RST ends a leg that is not open
abbrev pub resets_as : Role → EndState → PacketValue → Bool
resets_as (role.Active own) at p = at.is_greeted && (has_ack p && (p.ack == sequence_number at.own 0))
resets_as (role.Passive other mss) at p = p.seq == sequence_number at.other 0

-- a packet on a leg that is not open
abbrev pub first_answer : EndState → PacketValue → LegAnswer
first_answer at p =
    if has_rst p then (if resets_as at.role at p then answer.Reset else answer.Ignored)
    else if at.is_greeted && opens_as at.role at p then answer.Opened
    else answer.Ignored

-- an RST on an open leg
abbrev pub reset_answer : Advertised → ℤ → LegAnswer
reset_answer t at =
    if is_at at t.base then answer.Reset
    else if int_lt (pos t.base) at && int_lt at (pos t.edge) then answer.Challenged
    else answer.Ignored

-- a packet on an open leg
abbrev pub open_answer : EndState → PacketValue → LegAnswer
open_answer at p =
    if has_rst p then reset_answer at.told (text_place at p)
    else if has_syn p then answer.Challenged
    else if not (has_ack p) then answer.Ignored
    else if not (is_in_reach at p) then answer.Challenged
    else if int_lt (pos at.sent) (ack_place at p) then answer.Challenged
    else answer.Counted

-- what a packet is to an end
abbrev pub answer_to : EndState → PacketValue → LegAnswer
answer_to at p = if at.is_open then open_answer at p else first_answer at p

-- whether a packet opens the end, by its answer
abbrev pub has_opened : LegAnswer → Bool
has_opened answer.Opened = true
has_opened _ = false

-- the packet that came opens the leg
abbrev pub opens : EndState → Came → Bool
opens at (Packet p) = has_opened (answer_to at p)
opens at _ = false

-- whether a packet counts, by its answer: a segment that is answered as such, or that opens a passive leg. A SYN ACK does not
abbrev pub counts_as : Role → LegAnswer → Bool
counts_as r answer.Counted = true
counts_as (role.Active own) answer.Opened = false
counts_as (role.Passive other mss) answer.Opened = true
counts_as r answer.Challenged = false
counts_as r answer.Ignored = false
counts_as r answer.Reset = false

-- whether a packet counts
abbrev pub counts : EndState → PacketValue → Bool
counts at p = counts_as at.role (answer_to at p)

-- an acknowledgment is owed to the packet: to a SYN ACK that opens, to one that draws nothing else, and to one that
-- counts and has text or FIN
abbrev pub owes_for : Role → PacketValue → LegAnswer → Bool
owes_for r p answer.Counted = not (letters_of p == 0)
owes_for (role.Active own) p answer.Opened = true
owes_for (role.Passive other mss) p answer.Opened = not (letters_of p == 0)
owes_for r p answer.Challenged = true
owes_for r p answer.Ignored = false
owes_for r p answer.Reset = false

-- whether what came counts
abbrev pub counts_in : EndState → Came → Bool
counts_in at (Packet p) = counts at p
counts_in at _ = false

-- an acknowledgment is owed to what came
abbrev pub owes_in : EndState → Came → Bool
owes_in at (Packet p) = owes_for at.role p (answer_to at p)
owes_in at _ = false

-- what is acknowledged and what edge is shown, and the offers, after what came
abbrev pub acked_by : EndState → Came → ℕ → ℕ
acked_by at (Packet p) before = if counts at p then max before (place_or_zero (ack_place at p)) else before
acked_by at _ before = before

-- the greatest edge shown, after what came
abbrev pub shown_by : EndState → Came → ℕ → ℕ
shown_by at (Packet p) before =
    if counts at p then max before (place_or_zero (ack_place at p +ℤ pos p.window))
    else if opens at (Packet p) then max before p.window
    else before
shown_by at _ before = before

-- the letters offered, after what came: those of a packet that counts, with the edge told before it
abbrev pub offers_by : EndState → Came → List Offer → List Offer
offers_by at (Packet p) earlier =
    if counts at p then record { at = text_place at p; text = letters_in p; edge = at.told.edge } ∷ earlier else earlier
offers_by at _ earlier = earlier

-- ---- over the events of a leg

-- the leg as the packet half of an event finds it; whether it is open is handed in
abbrev pub end_state_if : Bool → Role → List LegEvent → LegEvent → EndState
end_state_if is_open r es e = record {
  role = r;
  is_greeted = is_greeted es;
  is_open = is_open;
  own = own_number r es;
  other = peer_number r es;
  told = told_at r es e;
  sent = letters_sent_at r es e;
}

-- the end is open after these events
abbrev pub opened : Role → List LegEvent → Bool
opened r [] = false
opened r (e ∷ es) = opened r es || opens (end_state_if (opened r es) r es e) e.came

-- the end as the packet half of an event finds it
abbrev pub end_state : Role → List LegEvent → LegEvent → EndState
end_state r es e = end_state_if (opened r es) r es e

-- what came in an event counts
abbrev pub counted : Role → List LegEvent → LegEvent → Bool
counted r es e = counts_in (end_state r es e) e.came

-- what came in an event opens the end
abbrev pub opening : Role → List LegEvent → LegEvent → Bool
opening r es e = opens (end_state r es e) e.came

-- an acknowledgment is owed to what came in an event
abbrev pub owed : Role → List LegEvent → LegEvent → Bool
owed r es e = owes_in (end_state r es e) e.came

-- the number of letters that the peer has acknowledged
abbrev pub acked : Role → List LegEvent → ℕ
acked r [] = 0
acked r (e ∷ es) = acked_by (end_state r es e) e.came (acked r es)

-- the greatest edge that the peer has shown
abbrev pub shown : Role → List LegEvent → ℕ
shown r [] = 0
shown r (e ∷ es) = shown_by (end_state r es e) e.came (shown r es)

-- the letters that were offered, each with the edge told before
abbrev pub offers : Role → List LegEvent → List Offer
offers r [] = []
offers r (e ∷ es) = offers_by (end_state r es e) e.came (offers r es)
