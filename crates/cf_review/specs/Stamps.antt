-- Steps of the proof: the stamps of those records that remarks are of: has_stamp, AreStamps.
use Rattle.std.specs.Prelude.{◌≡◌, ◌==◌, ◌<◌, ◌≤◌, ◌^◌, ◌||◌, ℕ, Bool, true, false}
use Rattle.std.specs.Prelude.{if◌then◌else◌, List, [], ◌∷◌, All, length, slice_get, Some}
use Rattle.cf_policy.specs.declared.Asset.{Asset}
use Rattle.cf_review.specs.Lines.{lines_by, review_text, stamp_of}
use Rattle.cf_review.specs.Remark.{RemarkValue}
use Rattle.cf_review.specs.declared.stamps.Stamp.{Stamp}

-- that of the record of this number, counted from 1, is one of these
abbrev pub has_stamp : List Stamp → (number : ℕ) → Bool
has_stamp [] number = false
has_stamp (x ∷ xs) number = (x.number == number) || has_stamp xs number

-- that of the record of a number, or 0 where it is not kept
abbrev pub stamp_by : List Stamp → (number : ℕ) → ℕ
stamp_by [] number = 0
stamp_by (x ∷ xs) number = if x.number == number then x.stamp else stamp_by xs number

-- they are some of these, that of record 1 first, and stand in the order of the records
pub record AreStamps (stamps : List ℕ) (s : List Stamp) : Type 0 where
  pub are : (i : ℕ) (x : Stamp) → slice_get s i ≡ Some x → x.stamp ≡ stamp_of stamps x.number
  pub low : (i : ℕ) (x : Stamp) → slice_get s i ≡ Some x → (0 < x.number) × (x.number < 2 ^ 32)
  pub past : (i : ℕ) (x : Stamp) → slice_get s i ≡ Some x → x.number ≤ length stamps

-- those of the records of remarks are kept
abbrev pub AreKnown : List Stamp → List RemarkValue → Type 0
AreKnown s remarks = All (λ r. has_stamp s r.at_record ≡ true) remarks

-- where they are the stamps of all records, the lines of remarks whose stamps are kept have them
abbrev pub StampsTell : Type 0
StampsTell =
    (assets : List Asset) (stamps : List ℕ) (s : List Stamp) (remarks : List RemarkValue) → AreStamps stamps s → AreKnown s remarks →
    lines_by assets (stamp_by s) remarks ≡ review_text assets stamps remarks
