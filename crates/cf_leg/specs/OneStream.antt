-- Steps of the proof: what all segments of an end carry, taken together: `IsOneStream`, read from the end.
use Rattle.std.specs.Prelude.{ℕ, ◌^◌, ◌≤◌, List, [], ◌∷◌, Option, None}
use Rattle.std.specs.Option.{option_or}
use Rattle.cf_packet.specs.Packet.{PacketValue}
use Rattle.cf_stream.specs.Position.{position}
use Rattle.cf_stream.specs.Stream.{Stream, Letter, Carries, Extends, letter_count, letter_from}
use Rattle.cf_leg.specs.Emits.{AllRight}
use Rattle.cf_leg.specs.Event.{LegEvent, sent_in, stream_after}
use Rattle.cf_leg.specs.Segment.{letters_in}
use Rattle.cf_leg.specs.Told.{letters_sent, letters_sent_at, letters_sent_by, own_number}
use Rattle.cf_leg.specs.declared.ends.Ends.{Ends}
use Rattle.cf_leg.specs.declared.ends.Role.{Role}

-- the letter of a segment at a place. Its sequence number is read near the number of letters sent before it
abbrev pub letter_in : ℕ → ℕ → PacketValue → ℕ → Option Letter
letter_in own sent p place = letter_from (position p.seq own sent) (letters_in p) place

-- each segment carries the letters of a stream at its places
abbrev pub CarryAll : Stream → ℕ → ℕ → List PacketValue → Type 0
CarryAll whole own sent [] = Unit {0}
CarryAll whole own sent (p ∷ ps) =
    Carries whole (position p.seq own sent) (letters_in p) × CarryAll whole own (letters_sent_by own sent p) ps

abbrev pub IsOneStream : Stream → Role → List LegEvent → Type 0
IsOneStream whole r [] = Unit {0}
IsOneStream whole r (e ∷ es) =
    CarryAll whole (own_number r es) (letters_sent r es) e.fired
    × CarryAll whole (own_number r (e ∷ es)) (letters_sent_at r es e) (sent_in e)
    × IsOneStream whole r es

-- the letter at a place in the first of the segments that carries one there
abbrev pub first_in : ℕ → ℕ → List PacketValue → ℕ → Option Letter
first_in own sent [] place = None
first_in own sent (p ∷ ps) place =
    option_or (letter_in own sent p place) (first_in own (letters_sent_by own sent p) ps place)

-- the letter that went out first at a place
abbrev pub first_carried : Role → List LegEvent → ℕ → Option Letter
first_carried r [] place = None
first_carried r (e ∷ es) place =
    option_or (first_carried r es place)
    (option_or (first_in (own_number r es) (letters_sent r es) e.fired place)
    (first_in (own_number r (e ∷ es)) (letters_sent_at r es e) (sent_in e) place))

-- the list of the queue only grows
abbrev pub Grows : List LegEvent → Type 0
Grows [] = Unit {0}
Grows (e ∷ es) = Extends (stream_after es) (stream_after (e ∷ es)) × Grows es

-- right events, whose queue's list only grows, up to this one of at most 2^31 letters
pub record IsRightRun (ends : Ends) (es : List LegEvent) (whole : Stream) : Type 0 where
  pub right : AllRight ends es
  pub grows : Grows es
  pub on : Extends (stream_after es) whole
  pub limit : letter_count whole ≤ 2 ^ 31
