-- What stands on a desk that failed amid a call of a session, `BreaksAmid`: a beginning of what the right event sends and logs in that
-- half. Below it stands one for each call.
use Rattle.std.specs.Prelude.{◌≡◌, ◌⊎◌, ℕ, Bool, true, false, Result, Ok, Err, List, [], ◌++◌, take}
use Rattle.std.specs.List.{concat, flat_map}
use Rattle.cf_outside.specs.Desk.{DeskValue, SentValue}
use Rattle.cf_packet.specs.Packet.{PacketValue}
use Rattle.cf_view.specs.declared.Side.{Side}
use Rattle.cf_session.specs.Event.{IsBeginning, IsPacket, IsTick}
use Rattle.cf_session.specs.Sent.{Sent, logged_first, logged_second, sent_first, sent_second}
use Rattle.cf_session.specs.Session.{Flow, SessionEvent, is_expired}
use Rattle.cf_session.specs.declared.session.BeginFault.{BeginFault}
use Rattle.cf_session.specs.declared.session.BeginFault.TheVariants as fault
use Rattle.cf_session.specs.Told.{emitted, told, with_both}

-- the octets of packets, one after the other, as a desk spells them
abbrev pub octets_of : (SentValue → List ℕ) → List Sent → List ℕ
octets_of octets sent = flat_map (λ s. octets (emitted s)) sent

-- what stood there before, behind what stands whole, or a beginning of the octets that come next
abbrev pub IsPartOf : (next was now : List ℕ) → Type 0
IsPartOf next was now = (now ≡ was) ⊎ ((some : ℕ) × (now ≡ take some next))

-- the desk failed amid these packets and these lines: it got the first ones of both whole, and of the next ones a beginning
pub record BreaksAmid (sent : List Sent) (lines : List (List ℕ)) (old new : DeskValue) : Type 0 where
  pub gone : List Sent
  pub left : List Sent
  pub are_sent : sent ≡ gone ++ left
  pub put : List (List ℕ)
  pub missing : List (List ℕ)
  pub are_lines : lines ≡ put ++ missing
  pub is_told : told new ≡ with_both (told old) gone put
  pub packet_part : IsPartOf (octets_of old.octets left) old.packet_part new.packet_part
  pub line_part : IsPartOf (concat missing) old.line_part new.line_part

-- the desk got these packets and these lines: all of them, or, where it failed, a beginning
abbrev pub Gets : (failed : Bool) → List Sent → (lines : List (List ℕ)) → (old new : DeskValue) → Type 0
Gets false sent lines old new = told new ≡ with_both (told old) sent lines
Gets true sent lines old new = BreaksAmid sent lines old new

-- what stands after the last whole packet and the last whole line is as it was, as after each call that did not fail
pub record KeepsParts (old new : DeskValue) : Type 0 where
  pub packet_part : new.packet_part ≡ old.packet_part
  pub line_part : new.line_part ≡ old.line_part

-- ---- each call

-- no session began, since the desk failed
abbrev pub has_failed : {A : Type 0} → Result A BeginFault → Bool
has_failed (Ok session) = false
has_failed (Err fault.NoMemory) = false
has_failed (Err fault.Write) = true

-- no line was written, not even in part
pub record KeepsLines (old new : DeskValue) : Type 0 where
  pub lines : new.lines ≡ old.lines
  pub line_part : new.line_part ≡ old.line_part

-- the beginning of a session. Of its line nothing stands where its SYN did not go out whole
pub record BreaksBeginning (flow : Flow) (tick : ℕ) (old new : DeskValue) : Type 0 where
  pub event : SessionEvent
  pub is_beginning : IsBeginning flow tick event
  pub amid : BreaksAmid (sent_second event) (logged_second flow [] event) old new
  pub order : (amid.left ≡ []) ⊎ KeepsLines old new

-- the first half of an event
pub record BreaksTick (flow : Flow) (earlier : List SessionEvent) (tick : ℕ) (old new : DeskValue) : Type 0 where
  pub event : SessionEvent
  pub kept : is_expired flow earlier tick ≡ false
  pub is_tick : IsTick flow earlier tick event
  pub amid : BreaksAmid (sent_first event) (logged_first flow event) old new

-- the second half, with a packet of a side
pub record BreaksPacket (flow : Flow) (limit : ℕ) (earlier : List SessionEvent) (half : SessionEvent) (from : Side) (packet : PacketValue)
    (old new : DeskValue) : Type 0 where
  pub event : SessionEvent
  pub is_packet : IsPacket flow limit earlier half from packet event
  pub amid : BreaksAmid (sent_second event) (logged_second flow earlier event) old new
