-- The bytes of flows that do not follow on their first ones: all_stretches. They stand behind a gap, as where a packet was not recorded, or
-- below position 0, as behind a SYN that its controller never took. Places are counted here from 2^31 below position 0, since a number is
-- read within 2^31 of a position that is at least 0 (RFC 9293, section 3.4).
use Rattle.std.specs.Prelude.{◌==◌, ◌&&◌, ◌+◌, ◌+ℤ◌, ◌^◌, ℕ, ℤ, zero, suc, pos, max, nat_le, nat_lt, Bool, true, false, if◌then◌else◌}
use Rattle.std.specs.Prelude.{List, [], ◌∷◌, ◌++◌, length, Option, Some, None, option_map}
use Rattle.std.specs.Option.{option_or}
use Rattle.cf_stream.specs.Stream.{Byte, End, Letter, letter_from}
use Rattle.cf_watch.specs.Carried.{Carried, top_of}
use Rattle.cf_watch.specs.FlowValue.{FlowValue, StretchValue}
use Rattle.cf_watch.specs.Watched.{Watched}

-- a letter, and the number of the record with which it came
pub record FirstLetter : Type 0 where
  pub letter : Letter
  pub number : ℕ

-- the letter of a packet at a place
abbrev pub letter_came : Carried → (place : ℕ) → Option FirstLetter
letter_came c place = option_map (λ l. record { letter = l; number = c.number }) (letter_from (c.at +ℤ pos (2 ^ 31)) c.text place)

-- the letter at a place is that of the earliest packet that carries it. The newest packet stands first
abbrev pub first_letter : List Carried → (place : ℕ) → Option FirstLetter
first_letter [] place = None
first_letter (c ∷ earlier) place = option_or (first_letter earlier place) (letter_came c place)

-- a place of the first bytes of a flow, so many from position 0 on
abbrev pub is_own : (count place : ℕ) → Bool
is_own count place = nat_le (2 ^ 31) place && nat_lt place (2 ^ 31 + count)

-- the letters at other places
abbrev pub apart : (count : ℕ) → (ℕ → Option FirstLetter) → (place : ℕ) → Option FirstLetter
apart count letter place = if is_own count place then None else letter place

-- bytes at places one after the other, from a place on: the record of the first, for each the last record with which those up to it came,
-- and the last of all
pub record Run : Type 0 where
  pub start : ℕ
  pub first : ℕ
  pub bytes : List ℕ
  pub born : List ℕ
  pub newest : ℕ

-- a run with a byte more
abbrev pub longer : Run → (byte number : ℕ) → Run
longer r byte number = record {
  start = r.start;
  first = r.first;
  bytes = r.bytes ++ byte ∷ [];
  born = r.born ++ max r.newest number ∷ [];
  newest = max r.newest number;
}

-- a run without a byte yet, from a place on, the first of which comes with this record
abbrev pub run_at : (place number : ℕ) → Run
run_at place number = record { start = place; first = number; bytes = []; born = []; newest = 0 }

-- the runs of all bytes before a place, the last one first, and those with a byte at this place
abbrev pub with_byte : (place byte number : ℕ) → List Run → List Run
with_byte place byte number [] = longer (run_at place number) byte number ∷ []
with_byte place byte number (r ∷ runs) =
    if r.start + length r.bytes == place
    then longer r byte number ∷ runs else longer (run_at place number) byte number ∷ r ∷ runs

abbrev pub with_letter : (place : ℕ) → Letter → (number : ℕ) → List Run → List Run
with_letter place (Byte byte) number runs = with_byte place byte number runs
with_letter place End number runs = runs

abbrev pub with_place : (place : ℕ) → Option FirstLetter → List Run → List Run
with_place place None runs = runs
with_place place (Some came) runs = with_letter place came.letter came.number runs

-- the runs of the bytes at the first places, so many; the last one first
abbrev pub runs_of : (ℕ → Option FirstLetter) → (count : ℕ) → List Run
runs_of letter zero = []
runs_of letter (suc place) = with_place place (letter place) (runs_of letter place)

-- a run as a stretch of its flow: a flow of the same client and asset that begins amid its stream, with the first byte of the run
abbrev pub stretch_of : FlowValue → (gap : Option ℤ) → Run → StretchValue
stretch_of f gap r = record {
  flow = record { client = f.client; asset = f.asset; midstream = Some r.first; bytes = r.bytes; born = r.born; conflict = None };
  gap = gap;
}

-- no runs
abbrev pub is_nil : List Run → Bool
is_nil [] = true
is_nil (r ∷ runs) = false

-- runs as stretches, the last one first: the first run tells the position of the gap
abbrev pub stretches_from : FlowValue → (gap : ℤ) → List Run → List StretchValue
stretches_from f gap [] = []
stretches_from f gap (r ∷ runs) = stretch_of f (if is_nil runs then Some gap else None) r ∷ stretches_from f gap runs

-- the stretches of a flow beside its first bytes, the last one first; the gap begins behind the first bytes
abbrev pub stretches_of : Watched → FlowValue → List StretchValue
stretches_of w f =
    stretches_from f (pos (length f.bytes)) (runs_of (apart (length f.bytes) (first_letter w.carried)) (2 ^ 31 + top_of w.carried))

-- those of all flows
abbrev pub all_stretches : List Watched → List FlowValue → List StretchValue
all_stretches [] flows = []
all_stretches (w ∷ ws) [] = []
all_stretches (w ∷ ws) (f ∷ flows) = stretches_of w f ++ all_stretches ws flows
