-- Steps of the proof: which numbers pieces stand for: `born_of`. A piece is of the bytes from its place on, up to that of the next one.
use Rattle.std.specs.Prelude.{◌≡◌, ◌<◌, ◌≤◌, ◌-◌, ◌++◌, ◌∷◌, [], ℕ, zero, suc, nat_le, if◌then◌else◌, List, length, get_or}
use Rattle.std.specs.List.Sorted.{IsNonDecreasingBy}
use Rattle.cf_watch.specs.declared.born.Piece.{Piece}

-- the record of a place: that of the last piece that begins at it or before, and this one where none does
abbrev pub record_by : (none : ℕ) → List Piece → (place : ℕ) → ℕ
record_by none [] place = none
record_by none (piece ∷ pieces) place = record_by (if nat_le piece.first place then piece.number else none) pieces place

-- the records of the places from 0 on, so many
abbrev pub born_of : List Piece → (count : ℕ) → List ℕ
born_of pieces zero = []
born_of pieces (suc place) = born_of pieces place ++ record_by 0 pieces place ∷ []

-- pieces of so many numbers: they stand in the order of their places, of which none is further on
pub record ArePieces (pieces : List Piece) (count : ℕ) : Type 0 where
  pub rise : IsNonDecreasingBy (λ (p : Piece). p.first) pieces
  pub within : (i : ℕ) (d : Piece) → i < length pieces → (get_or pieces i d).first ≤ count

-- the last piece is of this record
pub record IsLastRecord (pieces : List Piece) (number : ℕ) : Type 0 where
  pub some : 0 < length pieces
  pub is : (d : Piece) → (get_or pieces (length pieces - 1) d).number ≡ number
