-- Steps of the proof: the packets that a desk got: `with_segments`, and `BreaksOff` where it failed amid them.
use Rattle.std.specs.Prelude.{◌≡◌, ℕ, Bool, true, false, List, [], ◌∷◌, ◌++◌, take, Option}
use Rattle.cf_outside.specs.Desk.{DeskValue, SentValue, with_item}
use Rattle.cf_packet.specs.Packet.{PacketValue}
use Rattle.cf_packet.specs.Written.{packet_octets}

-- the octets of a segment. It opens only where it is asked to, since they are long
unfoldable pub spelled : PacketValue → List ℕ
spelled p = packet_octets p

-- the list with one segment more, and with these segments after its own, where it is told
abbrev pub with_segment : Option (List SentValue) → ℕ → PacketValue → Option (List SentValue)
with_segment told moment p = with_item (record { moment = moment; bytes = spelled p }) told

abbrev pub with_segments : Option (List SentValue) → ℕ → List PacketValue → Option (List SentValue)
with_segments told moment [] = told
with_segments told moment (p ∷ ps) = with_segments (with_segment told moment p) moment ps

-- a beginning of the octets of the next of some segments, if there is one
abbrev pub BeginsNext : (SentValue → List ℕ) → ℕ → List PacketValue → List ℕ → Type 0
BeginsNext octets moment [] part = part ≡ []
BeginsNext octets moment (p ∷ ps) part = (k : ℕ) × (part ≡ take k (octets (record { moment = moment; bytes = spelled p })))

-- a desk that failed amid segments: the first ones went out, and after them stands a beginning of the next one
pub record BreaksOff (moment : ℕ) (outs : List PacketValue) (old new : DeskValue) : Type 0 where
  pub gone : List PacketValue
  pub left : List PacketValue
  pub all : outs ≡ gone ++ left
  pub packets : new.packets ≡ with_segments old.packets moment gone
  pub part : BeginsNext old.octets moment left new.packet_part

-- segments that are all that may be said, or, where the desk failed, the first ones of it
abbrev pub AllOrFirst : (failed : Bool) → (MaySay : List PacketValue → Type 0) → List PacketValue → Type 0
AllOrFirst false MaySay outs = MaySay outs
AllOrFirst true MaySay outs = (more : List PacketValue) × MaySay (outs ++ more)

-- the desk got these segments: all of them, or, where it failed, a beginning
abbrev pub GetsSegments : (failed : Bool) → (moment : ℕ) → List PacketValue → (old new : DeskValue) → Type 0
GetsSegments false moment outs old new = new.packets ≡ with_segments old.packets moment outs
GetsSegments true moment outs old new = BreaksOff moment outs old new
