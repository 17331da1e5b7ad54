-- What the packets of one flow carried, and what a watcher knows of it: the bytes, `HasBytes`, the record with which each came,
-- `AreBorn`, and the first conflict, `HasConflict`. The newest packet stands first. Positions are those of RFC 9293, section 3.4.
use Rattle.std.specs.Prelude.{◌≡◌, ◌≢◌, ◌==◌, ◌<◌, ◌≤◌, ◌+ℤ◌, ℕ, ℤ, pos, max, List, [], ◌∷◌, ◌++◌, length, map, slice_get, if◌then◌else◌}
use Rattle.std.specs.Prelude.{Option, Some, None}
use Rattle.cf_stream.specs.FirstCopy.{IsTaken, Offer, first_copy}
use Rattle.cf_stream.specs.Position.{place_or_zero}
use Rattle.cf_stream.specs.Stream.{Letter, Stream, letter_count, letter_from}
use Rattle.cf_watch.specs.declared.flow.Conflict.{Conflict}

-- the letters of a packet: the number of its record, counted from 1, where they stand, and End after them where it has FIN
pub record Carried : Type 0 where
  pub number : ℕ
  pub at : ℤ
  pub text : Stream

-- the place after the last of so many letters from a place on; 0 where none stands from place 0 on
abbrev pub end_after : (at : ℤ) (count : ℕ) → ℕ
end_after at count = if count == 0 then 0 else place_or_zero (at +ℤ pos count)

-- the place after the last letter of a packet
abbrev pub end_of : Carried → ℕ
end_of c = end_after c.at (letter_count c.text)

-- one more than the greatest place that was carried, at least 0
abbrev pub top_of : List Carried → ℕ
top_of [] = 0
top_of (c ∷ earlier) = max (top_of earlier) (end_of c)

-- what a packet offers: all of its letters
abbrev pub offer_of : Carried → Offer
offer_of c = record { at = c.at; text = c.text; edge = end_of c }

-- the letter of a packet at a place
abbrev pub letter_of : Carried → ℕ → Option Letter
letter_of c p = letter_from c.at c.text p

-- the letter at a place is that of the earliest packet that carries it
abbrev pub copy_of : List Carried → ℕ → Option Letter
copy_of carried p = first_copy (map offer_of carried) p

-- the bytes of the flow: those at 0, 1 and so on, up to the first gap or End
abbrev pub HasBytes : List Carried → List ℕ → Type 0
HasBytes carried bytes = (ended : _) × IsTaken (copy_of carried) (record { bytes = bytes; ended = ended })

-- the record that bore a place: with a packet of it the bytes reached past the place, and before it they did not
pub record IsBornWith (carried : List Carried) (place number : ℕ) : Type 0 where
  pub newer : List Carried
  pub one : Carried
  pub older : List Carried
  pub are : carried ≡ newer ++ one ∷ older
  pub is_number : one.number ≡ number
  pub before : List ℕ
  pub has_before : HasBytes older before
  pub not_yet : length before ≤ place
  pub now : List ℕ
  pub has_now : HasBytes (one ∷ older) now
  pub reached : place < length now

-- bytes each of which came with its record
pub record AreBorn (carried : List Carried) (bytes born : List ℕ) : Type 0 where
  pub count : length born ≡ length bytes
  pub each : (place number : ℕ) → slice_get born place ≡ Some number → IsBornWith carried place number

-- a packet has another letter at a place than the first one there
pub record Differs (copy : ℕ → Option Letter) (c : Carried) (p : ℕ) : Type 0 where
  pub first : Letter
  pub other : Letter
  pub was : copy p ≡ Some first
  pub is : letter_of c p ≡ Some other
  pub differ : other ≢ first

-- the conflict of a packet: at the lowest place where it differs
pub record IsConflictWith (copy : ℕ → Option Letter) (c : Carried) (conflict : Conflict) : Type 0 where
  pub place : ℕ
  pub number : conflict.at_record ≡ c.number
  pub position : conflict.position ≡ pos place
  pub here : Differs copy c place
  pub lowest : (p : ℕ) → Differs copy c p → place ≤ p

-- the conflict of a packet, or that it has none
abbrev pub IsConflictOf : (ℕ → Option Letter) → Carried → Option Conflict → Type 0
IsConflictOf copy c None = (p : ℕ) → Differs copy c p → ⊥
IsConflictOf copy c (Some conflict) = IsConflictWith copy c conflict

-- the first conflict stays
abbrev pub IsConflictAfter : (ℕ → Option Letter) → Carried → (before now : Option Conflict) → Type 0
IsConflictAfter copy c (Some conflict) now = now ≡ Some conflict
IsConflictAfter copy c None now = IsConflictOf copy c now

-- the conflict of the first packet that has one
abbrev pub HasConflict : List Carried → Option Conflict → Type 0
HasConflict [] conflict = conflict ≡ None
HasConflict (c ∷ earlier) conflict = (before : Option Conflict) × HasConflict earlier before
    × IsConflictAfter (copy_of earlier) c before conflict
