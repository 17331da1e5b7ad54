-- Steps of the proof: what a watcher keeps of a flow in memory, and what the letters of a packet do to it: `Takes`.
use Rattle.std.specs.Prelude.{◌≡◌, ◌≢◌, ◌+◌, ◌-◌, ◌^◌, ◌≤◌, ◌<◌, ◌≤ℤ◌, ◌⊎◌, ℕ, ℤ, pos, zero, suc, nat_lt, if◌then◌else◌, List, [], ◌∷◌, ◌++◌, length, replicate, slice_index, true, false}
use Rattle.std.specs.Prelude.{Option, Some, None, is_some, option_map}
use Rattle.std.specs.BTreeMap.{BTreeMap, btree_map_len, get}
use Rattle.std.specs.Option.{option_or}
use Rattle.std.specs.Ordering.{nat_cmp}
use Rattle.cf_stream.specs.Stream.{Byte, End, Letter, Stream, letter_at, letter_count, letter_from}
use Rattle.cf_watch.specs.Carried.{Carried, IsConflictAfter}
use Rattle.cf_watch.specs.FlowValue.{FlowValue}
use Rattle.cf_watch.specs.declared.flow.Flow.{Flow}
use Rattle.cf_watch.specs.Stretches.{FirstLetter, Run as RunValue, apart, is_own, letter_came, runs_of}
use Rattle.cf_watch.specs.declared.ahead.Letters.{Letters}
use Rattle.cf_watch.specs.declared.ahead.Letters.TheVariants as row
use Rattle.cf_watch.specs.declared.ahead.Portion.{Portion}
use Rattle.cf_watch.specs.declared.letter.Letter.{Letter as Heard}
use Rattle.cf_watch.specs.declared.stretches.Run.{Run}
use Rattle.cf_watch.specs.declared.letter.Letter.TheVariants as heard

abbrev pub letter_value : Heard → Letter
letter_value (heard.Byte b) = Byte b
letter_value heard.End = End

-- the letters of a portion
abbrev pub row_value : Letters → Stream
row_value (row.Bytes v) = record { bytes = v.items; ended = false }
row_value row.End = record { bytes = []; ended = true }

-- the last portion that begins at a place or before it, and where it begins
abbrev pub portion_at : BTreeMap ℕ Portion → (q : ℕ) → Option (ℕ × Portion)
portion_at ahead zero = option_map (λ p. (zero, p)) (get nat_cmp ahead zero)
portion_at ahead (suc q) = option_or (option_map (λ p. (suc q, p)) (get nat_cmp ahead (suc q))) (portion_at ahead q)

-- the letter of a portion so far behind its beginning
abbrev pub letter_of_portion : Portion → ℕ → Option FirstLetter
letter_of_portion p k = option_map (λ l. record { letter = l; number = p.number }) (letter_at (row_value p.letters) k)

-- the letter of a portion at a place
abbrev pub portion_letter : (q : ℕ) → Option (ℕ × Portion) → Option FirstLetter
portion_letter q None = None
portion_letter q (Some e) = letter_of_portion e.1 (q - e.0)

-- what is kept at a place, counted from 2^31 below
abbrev pub kept : BTreeMap ℕ Portion → ℕ → Option FirstLetter
kept ahead q = portion_letter q (portion_at ahead q)

-- the letter that is known at a place: a byte of the flow, or one that came ahead
abbrev pub known : List ℕ → BTreeMap ℕ Portion → ℕ → Option Letter
known bytes ahead p =
    if nat_lt p (length bytes) then Some (Byte (slice_index bytes p)) else option_map (λ c. c.letter) (kept ahead (p + 2 ^ 31))

-- from a place on so many letters can be kept: none is there, and no portion begins among the other places
pub record IsRoom (place count : ℕ) (ahead : BTreeMap ℕ Portion) : Type 0 where
  pub here : 0 < count → kept ahead place ≡ None
  pub behind : (r : ℕ) → place < r → r < place + count → get nat_cmp ahead r ≡ None

-- the letters of a packet were kept where none was, but where now the bytes of the flow stand, so many
abbrev pub Holds : Carried → (old : BTreeMap ℕ Portion) → (count : ℕ) → (new : BTreeMap ℕ Portion) → Type 0
Holds c old count new = (q : ℕ) → is_own count q ≡ false → kept new q ≡ option_or (kept old q) (letter_came c q)

-- the stream of one letter
abbrev pub stream_of : Heard → Stream
stream_of (heard.Byte b) = record { bytes = b ∷ []; ended = false }
stream_of heard.End = record { bytes = []; ended = true }

-- the bytes went on, each with this record, and the flow is else the same
pub record Grows (number : ℕ) (old new : FlowValue) : Type 0 where
  pub more : List ℕ
  pub bytes : new.bytes ≡ old.bytes ++ more
  pub born : new.born ≡ old.born ++ replicate (length more) number
  pub client : new.client ≡ old.client
  pub asset : new.asset ≡ old.asset
  pub midstream : new.midstream ≡ old.midstream

-- the letters of a packet were taken: each is known where none was, and the first that differs is a conflict
pub record Takes (c : Carried) (old : FlowValue) (old_ahead : BTreeMap ℕ Portion) (new : FlowValue) (new_ahead : BTreeMap ℕ Portion) : Type 0 where
  pub knows : (p : ℕ) → known new.bytes new_ahead p ≡ option_or (known old.bytes old_ahead p) (letter_from c.at c.text p)
  pub holds : Holds c old_ahead (length new.bytes) new_ahead
  pub conflicts : IsConflictAfter (known old.bytes old_ahead) c old.conflict new.conflict
  pub grows : Grows c.number old new

-- a flow in memory, with the bytes before that are kept no more and their records
abbrev pub with_gone : (gone gone_born : List ℕ) → Flow → FlowValue
with_gone gone gone_born f = record {
  client = f.client;
  asset = f.asset;
  midstream = f.midstream;
  bytes = gone ++ f.bytes.items;
  born = gone_born ++ f.born;
  conflict = f.conflict;
}

-- the bytes went on, whatever stood in front of them
abbrev pub GrowsBehind : (number : ℕ) → (old new : Flow) → Type 0
GrowsBehind number old new = (gone gone_born : List ℕ) → Grows number (with_gone gone gone_born old) (with_gone gone gone_born new)

-- the bytes went on over what came ahead, up to where no byte stands
pub record Advances (number : ℕ) (ahead : BTreeMap ℕ Portion) (old new : FlowValue) : Type 0 where
  pub knows : (p : ℕ) → known new.bytes ahead p ≡ known old.bytes ahead p
  pub grows : Grows number old new
  pub stops : (b : ℕ) → known new.bytes ahead (length new.bytes) ≢ Some (Byte b)
  pub conflict : new.conflict ≡ old.conflict

-- whatever stood in front of the bytes of a flow, so many of which are kept no more, the letters of a packet were taken
abbrev pub TakesBehind : (base : ℕ) → Carried → (old : Flow) → BTreeMap ℕ Portion → (new : Flow) → BTreeMap ℕ Portion → Type 0
TakesBehind base c old old_ahead new new_ahead =
    (gone gone_born : List ℕ) → length gone ≡ base →
    Takes c (with_gone gone gone_born old) old_ahead (with_gone gone gone_born new) new_ahead

-- a place is none of those whose bytes are kept no more
abbrev pub IsKept : (base : ℕ) → ℤ → Type 0
IsKept base at = (base ≡ 0) ⊎ (pos base ≤ℤ at)

-- of a portion from a place on these are the letters up to where the next one begins
pub record IsUpToNext (ahead : BTreeMap ℕ Portion) (start : ℕ) (all first : Portion) : Type 0 where
  pub number : first.number ≡ all.number
  pub none_between : (r : ℕ) → start < r → r < start + letter_count (row_value first.letters) → get nat_cmp ahead r ≡ None
  pub same : (k : ℕ) → k < letter_count (row_value first.letters) → letter_at (row_value first.letters) k ≡ letter_at (row_value all.letters) k
  pub rest : (k : ℕ) → letter_count (row_value first.letters) ≤ k → ((r : ℕ) → r ≤ start + k → get nat_cmp ahead r ≡ None)
      → letter_at (row_value all.letters) k ≡ None

-- the portion that began at the lowest place, up to where the next one begins, was taken out
pub record IsFirst (place : ℕ) (first : Portion) (old new : BTreeMap ℕ Portion) : Type 0 where
  pub begins : is_some (get nat_cmp old place) ≡ true
  pub was : (k : ℕ) → k < letter_count (row_value first.letters) → kept old (place + k) ≡ letter_of_portion first k
  pub none_before : (q : ℕ) → q < place → kept old q ≡ None
  pub gone : (r : ℕ) → r < place + letter_count (row_value first.letters) → get nat_cmp new r ≡ None
  pub others : (q : ℕ) → place + letter_count (row_value first.letters) ≤ q → kept new q ≡ kept old q
  pub fewer : btree_map_len new + 1 ≡ btree_map_len old

-- a run without where it lies in memory
abbrev pub run_value : Run → RunValue
run_value r = record { start = r.start; first = r.first; bytes = r.bytes.items; born = r.born; newest = r.newest }

-- these are the runs of all letters that are kept, the last one first, but at the places of the bytes of the flow, which has so many
pub record HasRuns (count : ℕ) (ahead : BTreeMap ℕ Portion) (runs : List RunValue) : Type 0 where
  pub places : ℕ
  pub none_behind : (q : ℕ) → places ≤ q → kept ahead q ≡ None
  pub are_runs : runs ≡ runs_of (apart count (kept ahead)) places
