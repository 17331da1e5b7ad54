-- A direction of a TCP connection as letters, Stream: its bytes in order, and End after them once its sender has closed
-- it. RFC 9293, section 3.4, gives a sequence number to each octet and to FIN alike. The word letter for both, and
-- places that count from 0, are this project's own.
use Rattle.std.specs.Prelude.{◌≡◌, ℕ, suc, ◌+◌, ◌-◌, ◌≤◌, ◌==◌, nat_lt, Bool, true, false, ◌&&◌, if◌then◌else◌, List, [], ◌∷◌, ◌++◌, length}
use Rattle.std.specs.Prelude.{map, take, drop, slice_index, Option, Some, None, ℤ, pos, negsuc}

-- bytes in their order, and whether End stands after them
pub record Stream : Type 0 where
  pub bytes : List ℕ
  pub ended : Bool

-- a byte, or End
pub data Letter : Type 0 where
  Byte : ℕ → Letter
  End : Letter

-- a stream as it begins
abbrev pub no_letters : Stream
no_letters = record { bytes = []; ended = false }

-- the stream, with these bytes after its own
abbrev pub with_bytes : Stream → List ℕ → Stream
with_bytes s bytes = record s { bytes = s.bytes ++ bytes }

-- the stream, closed
abbrev pub with_end : Stream → Stream
with_end s = record s { ended = true }

-- the number of letters of a stream, End included
abbrev pub letter_count : Stream → ℕ
letter_count s = length s.bytes + (if s.ended then 1 else 0)

-- the letter at a place, if there is one
abbrev pub letter_at : Stream → ℕ → Option Letter
letter_at s p =
    if nat_lt p (length s.bytes) then Some (Byte (slice_index s.bytes p))
    else (if (p == length s.bytes) && s.ended then Some End else None)

-- the letters in their order
abbrev pub letters : Stream → List Letter
letters s = map Byte s.bytes ++ (if s.ended then End ∷ [] else [])

-- the letter at place p, where the letters stand from place a on. RFC 9293, section 3.4: the first octet of a segment's
-- text has the segment's sequence number, and FIN comes after its last octet
abbrev pub letter_from : ℤ → Stream → ℕ → Option Letter
letter_from (pos a) s p = if nat_lt p a then None else letter_at s (p - a)
letter_from (negsuc a) s p = letter_at s (p + suc a)

-- n bytes from place a on, and End after them where it is so
abbrev pub part : Stream → ℕ → ℕ → Bool → Stream
part s a n ended = record { bytes = take n (drop a s.bytes); ended = ended }

-- the part lies in the stream, and has End only where the stream has it there
pub record IsPart (s : Stream) (a n : ℕ) (ended : Bool) : Type 0 where
  pub inside : a + n ≤ length s.bytes
  pub at_end : ended ≡ true → (s.ended ≡ true) × (a + n ≡ length s.bytes)

-- each letter of a text that stands from place a on is the stream's letter at its place
abbrev pub Carries : Stream → ℤ → Stream → Type 0
Carries s a text = (p : ℕ) (l : Letter) → letter_from a text p ≡ Some l → letter_at s p ≡ Some l

-- t is s and what followed it, and nothing follows End
pub record Extends (s t : Stream) : Type 0 where
  pub more : List ℕ
  pub bytes : t.bytes ≡ s.bytes ++ more
  pub ended : s.ended ≡ true → t ≡ s
