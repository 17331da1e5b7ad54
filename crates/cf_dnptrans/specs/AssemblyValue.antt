-- Steps of the proof: what an `Assembly` keeps of the segments so far, `IsAssemblyOf`, and what one more segment does to it, `Steps`.
use Rattle.std.specs.Prelude.{◌≡◌, ℕ, ◌+◌, ◌%◌, ◌==◌, Bool, true, if◌then◌else◌, List, [], ◌∷◌, ◌++◌, drop, Option, Some, None}
use Rattle.cf_dnptrans.specs.declared.assembly.SegmentAnswer.{SegmentAnswer}
use Rattle.cf_dnptrans.specs.declared.assembly.SegmentAnswer.TheVariants as answer_
use Rattle.cf_dnptrans.specs.Transport.{is_final, is_first, sequence, fitting, last_fragment, unfinished, last_sequence, added, answer_of}

-- what a contract sees of an `Assembly`: the octets of the fragment that is begun or whole, whether one is begun and not whole,
-- whether the last segment completed it, and the sequence of the last segment that was taken
pub record AssemblyValue : Type 0 where
  pub octets : List ℕ
  pub begun : Bool
  pub whole : Bool
  pub last : ℕ

-- what is unfinished
abbrev pub open_of : AssemblyValue → Option (List ℕ)
open_of v = if v.begun then Some v.octets else None

-- the values are those of the segments
pub record IsAssemblyOf (v : AssemblyValue) (segments : List (List ℕ)) : Type 0 where
  pub opened : open_of v ≡ unfinished segments
  pub last_is : v.begun ≡ true → v.last ≡ last_sequence segments
  pub whole_is : v.whole ≡ true → last_fragment segments ≡ Some v.octets

-- the fragment that a segment with an octet makes with what was unfinished
abbrev pub continuing : Option (List ℕ) → ℕ → List ℕ → Option (List ℕ)
continuing None last s = None
continuing (Some octets) last s = if sequence s == (last + 1) % 64 then fitting (octets ++ drop 1 s) else None

abbrev pub makes : Option (List ℕ) → ℕ → List ℕ → Option (List ℕ)
makes before last s = if is_first s then fitting (drop 1 s) else continuing before last s

-- what is unfinished after a segment
abbrev pub leaves : Option (List ℕ) → ℕ → List ℕ → Option (List ℕ)
leaves before last [] = before
leaves before last (o ∷ os) = if is_final (o ∷ os) then None else makes before last (o ∷ os)

abbrev pub sequence_after : ℕ → List ℕ → ℕ
sequence_after last [] = last
sequence_after last (o ∷ os) = sequence (o ∷ os)

-- what a segment does
pub record Steps (old : AssemblyValue) (s : List ℕ) (answer : SegmentAnswer) (new : AssemblyValue) : Type 0 where
  pub answer_is : answer ≡ answer_of (open_of old) old.last s
  pub opened : open_of new ≡ leaves (open_of old) old.last s
  pub last_is : new.begun ≡ true → new.last ≡ sequence_after old.last s
  pub whole : new.whole ≡ true → answer ≡ answer_.Whole
  pub octets : answer ≡ answer_.Whole → (new.whole ≡ true) × (makes (open_of old) old.last s ≡ Some new.octets)

-- what a segment does whose fragment then has these octets
pub record Adds (octets : List ℕ) (s : List ℕ) (answer : SegmentAnswer) (new : AssemblyValue) : Type 0 where
  pub answer_is : answer ≡ added octets s
  pub opened : open_of new ≡ (if is_final s then None else fitting octets)
  pub last_is : new.begun ≡ true → new.last ≡ sequence s
  pub whole : new.whole ≡ true → answer ≡ answer_.Whole
  pub made : answer ≡ answer_.Whole → (new.whole ≡ true) × (fitting octets ≡ Some new.octets)
