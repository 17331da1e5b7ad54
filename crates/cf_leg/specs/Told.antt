-- What the peer of an end was told, `told`, and how far it was sent to, `letters_sent`, read from the segments that went out.
use Rattle.std.specs.Prelude.{ℕ, ◌+◌, ◌==◌, max, not, Bool, ◌&&◌, if◌then◌else◌, List, [], ◌∷◌, Option, Some, None, pos, ◌+ℤ◌}
use Rattle.std.specs.Option.{option_or, is_some}
use Rattle.cf_packet.specs.Packet.{PacketValue}
use Rattle.cf_stream.specs.Position.{sequence_number, position, place_or_zero}
use Rattle.cf_leg.specs.Event.{Came, Greeting, Packet, LegEvent, sent_in}
use Rattle.cf_leg.specs.Segment.{has_syn, has_rst, has_ack, letters_of}
use Rattle.cf_leg.specs.declared.ends.Advertised.{Advertised}
use Rattle.cf_leg.specs.declared.ends.Role.{Role}
use Rattle.cf_leg.specs.declared.ends.Role.TheVariants as role

-- the SYN or the SYN ACK that the end sent
abbrev pub greeting_in : Came → Option PacketValue
greeting_in (Greeting p) = Some p
greeting_in _ = None

-- the greeting that an end sent in some events, if it did
abbrev pub greeting : List LegEvent → Option PacketValue
greeting [] = None
greeting (e ∷ es) = option_or (greeting es) (greeting_in e.came)

-- whether a greeting was sent
abbrev pub is_greeted : List LegEvent → Bool
is_greeted es = is_some (greeting es)

-- the sequence number of a packet, 0 where there is none
abbrev pub seq_of : Option PacketValue → ℕ
seq_of None = 0
seq_of (Some p) = p.seq

-- the packet is a SYN ACK for the SYN with a sequence number
abbrev pub answers_syn : ℕ → PacketValue → Bool
answers_syn own p = (has_syn p && has_ack p) && (not (has_rst p) && (p.ack == sequence_number own 0))

-- the SYN ACK that opened an end that had sent a SYN with a sequence number
abbrev pub syn_ack_in : ℕ → Bool → Came → Option PacketValue
syn_ack_in own greeted (Packet p) = if greeted && answers_syn own p then Some p else None
syn_ack_in own greeted _ = None

-- the SYN ACK that opened an active end, if one did
abbrev pub syn_ack : ℕ → List LegEvent → Option PacketValue
syn_ack own [] = None
syn_ack own (e ∷ es) = option_or (syn_ack own es) (syn_ack_in own (is_greeted es) e.came)

-- the sequence numbers of the end's own SYN and of its peer's, 0 as long as they are not known
abbrev pub own_number : Role → List LegEvent → ℕ
own_number (role.Active own) es = own
own_number (role.Passive other mss) es = seq_of (greeting es)

-- the sequence number of the peer's SYN, 0 as long as it is not known
abbrev pub peer_number : Role → List LegEvent → ℕ
peer_number (role.Active own) es = seq_of (syn_ack own es)
peer_number (role.Passive other mss) es = other

-- the base and the edge told after a segment: it tells them where it has ACK and not RST
abbrev pub told_by : ℕ → Advertised → PacketValue → Advertised
told_by other t p =
    if has_ack p && not (has_rst p) then
    (let base = place_or_zero (position p.ack other t.base) in record { base = base; edge = base + p.window })
    else t

-- the base and the edge told after segments, the oldest one first
abbrev pub told_by_all : ℕ → Advertised → List PacketValue → Advertised
told_by_all other t [] = t
told_by_all other t (p ∷ ps) = told_by_all other (told_by other t p) ps

-- the base and the edge told after events
abbrev pub told : Role → List LegEvent → Advertised
told r [] = record { base = 0; edge = 0 }
told r (e ∷ es) =
    told_by_all (peer_number r (e ∷ es)) (told_by_all (peer_number r es) (told r es) e.fired) (sent_in e)

-- the number of places that segments have sent: a segment with letters carries those up to its last one
abbrev pub letters_sent_by : ℕ → ℕ → PacketValue → ℕ
letters_sent_by own before p =
    if letters_of p == 0 then before
    else max before (place_or_zero (position p.seq own before +ℤ pos (letters_of p)))

-- the number of places that segments have sent, the oldest one first
abbrev pub letters_sent_by_all : ℕ → ℕ → List PacketValue → ℕ
letters_sent_by_all own before [] = before
letters_sent_by_all own before (p ∷ ps) = letters_sent_by_all own (letters_sent_by own before p) ps

-- the number of places that the segments of events have sent
abbrev pub letters_sent : Role → List LegEvent → ℕ
letters_sent r [] = 0
letters_sent r (e ∷ es) =
    letters_sent_by_all (own_number r (e ∷ es)) (letters_sent_by_all (own_number r es) (letters_sent r es) e.fired) (sent_in e)

-- what was told as the packet half of an event begins
abbrev pub told_at : Role → List LegEvent → LegEvent → Advertised
told_at r es e = told_by_all (peer_number r es) (told r es) e.fired

-- the number of places sent as the packet half of an event begins
abbrev pub letters_sent_at : Role → List LegEvent → LegEvent → ℕ
letters_sent_at r es e = letters_sent_by_all (own_number r es) (letters_sent r es) e.fired
