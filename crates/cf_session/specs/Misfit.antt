-- What does not fit in a packet that comes to a session: `misfit_of`. The box answers both sides itself, so a segment that answers what
-- the box had not sent, or fills what it had not let in, was recorded beside it. In the terms of RFC 9293, section 3.3.1; which
-- segments are asked is this project's own.
use Rattle.std.specs.Prelude.{ℕ, ◌+◌, ◌-◌, ◌%◌, ◌^◌, ◌==◌, nat_lt, not, Bool, true, false, ◌&&◌, ◌||◌, if◌then◌else◌, List, Option, None, Some}
use Rattle.cf_leg.specs.Heard.{opened}
use Rattle.cf_leg.specs.Segment.{has_ack, has_rst, has_syn, is_opening, letters_of}
use Rattle.cf_leg.specs.Told.{letters_sent, peer_number, told}
use Rattle.cf_packet.specs.Packet.{PacketValue}
use Rattle.cf_stream.specs.Position.{sequence_number}
use Rattle.cf_view.specs.declared.Side.{Side}
use Rattle.cf_view.specs.declared.Side.TheVariants as side
use Rattle.cf_session.specs.Session.{Flow, SessionEvent, client_ends, clients, controller_ends, controllers}
use Rattle.cf_session.specs.declared.misfit.Misfit.{Misfit}
use Rattle.cf_session.specs.declared.misfit.Misfit.TheVariants as misfit
use Rattle.cf_session.specs.declared.misfit.Reach.{Reach}

-- ---- a segment

-- a sequence number stands past another, less than 2^31 from it. Section 3.4
abbrev pub stands_past : (number other : ℕ) → Bool
stands_past number other = nat_lt 0 ((number + 2 ^ 32 - other) % 2 ^ 32) && nat_lt ((number + 2 ^ 32 - other) % 2 ^ 32) (2 ^ 31)

-- SEG.LEN: the letters of a segment, and one for SYN
abbrev pub segment_length : PacketValue → ℕ
segment_length p = letters_of p + (if has_syn p then 1 else 0)

-- the sequence number after a segment
abbrev pub number_after : PacketValue → ℕ
number_after p = (p.seq + segment_length p) % 2 ^ 32

-- the acknowledgment is above what was sent, or nothing was sent
abbrev pub acknowledges_unsent : (next : Option ℕ) → PacketValue → Bool
acknowledges_unsent None p = true
acknowledges_unsent (Some next) p = stands_past p.ack next

-- one letter right at the edge, by which a peer asks whether the window is open. Section 3.8.6.1
abbrev pub is_probe : (edge : ℕ) → PacketValue → Bool
is_probe edge p = (segment_length p == 1) && (p.seq == edge)

-- the segment ends beyond the edge that was told
abbrev pub ends_beyond : (edge : Option ℕ) → PacketValue → Bool
ends_beyond None p = false
ends_beyond (Some edge) p = not (is_probe edge p) && stands_past (number_after p) edge

-- what does not fit in a segment of a side. One with RST does fit, and one that may open a session anew, with numbers of its own
abbrev pub misfit_by : Reach → PacketValue → Misfit
misfit_by reach p =
    if has_rst p || is_opening p then misfit.Nothing
    else if has_ack p && acknowledges_unsent reach.next p then misfit.Above
    else if ends_beyond reach.edge p then misfit.Beyond
    else misfit.Nothing

-- ---- what was sent to a side, and told it

-- by the numbers of both SYNs, that of the controller where it has answered: each side gets the numbers of the other; how many letters
-- were sent to it, and the edge that it was told. Before the controller has answered the client was sent nothing, and nobody was told an
-- edge
abbrev pub reach_by : Side → (client : ℕ) → (controller : Option ℕ) → (sent edge : ℕ) → Reach
reach_by side.Client client None sent edge = record { next = None; edge = None }
reach_by side.Client client (Some controller) sent edge =
    record { next = Some (sequence_number controller sent); edge = Some (sequence_number client edge) }
reach_by side.Controller client None sent edge = record { next = Some (sequence_number client sent); edge = None }
reach_by side.Controller client (Some controller) sent edge =
    record { next = Some (sequence_number client sent); edge = Some (sequence_number controller edge) }

-- the number of the controller's SYN, once its SYN ACK has opened the end towards it
abbrev pub controller_number : Flow → List SessionEvent → Option ℕ
controller_number flow events =
    if opened (controller_ends flow).role (controllers events) then Some (peer_number (controller_ends flow).role (controllers events))
    else None

-- what was sent to a side and told it in these events
abbrev pub reach_of : Flow → List SessionEvent → Side → Reach
reach_of flow events side.Client =
    reach_by side.Client flow.syn.seq (controller_number flow events) (letters_sent (client_ends flow).role (clients events))
    (told (client_ends flow).role (clients events)).edge
reach_of flow events side.Controller =
    reach_by side.Controller flow.syn.seq (controller_number flow events) (letters_sent (controller_ends flow).role (controllers events))
    (told (controller_ends flow).role (controllers events)).edge

-- what does not fit in a packet that came from a side behind these events
abbrev pub misfit_of : Flow → List SessionEvent → Side → PacketValue → Misfit
misfit_of flow events from p = misfit_by (reach_of flow events from) p
