-- The letters of a packet at their places, and packets that are cut in two.
use Rattle.std.proofs.Common.{◌≡◌, ◌≢◌, ◌+◌, ◌-◌, ◌<◌, ◌≤◌, ◌+ℤ◌, ◌<ℤ◌, ◌⊎◌, ℕ, ℤ, suc, pos, negsuc, Bool, true, false, nat_lt, ◌==◌, ◌≤ℤ◌, List, ◌++◌, length, get_or, Some, None, refl, sym, ap, ◌∙◌, inl, inr, arith, length-append}
use Rattle.std.proofs.lemmas.Bool.{cases_lt}
use Rattle.std.proofs.lemmas.List.{get_or_append_left, get_or-append_right}
use Rattle.std.proofs.lemmas.Option.{none-some}
use Rattle.std.proofs.lemmas.Bool.Decides.{nat_tests}
use Rattle.std.proofs.lemmas.Int.{ints}
use Rattle.std.specs.Option.{option_or}
use Rattle.cf_stream.specs.Stream.{Byte, Letter, Stream, letter_at, letter_from}
use Rattle.cf_watch.specs.Kept.{letter_value, stream_of}
use Rattle.cf_watch.specs.declared.letter.Letter.{Letter as Heard}
use Rattle.cf_watch.specs.declared.letter.Letter.TheVariants as heard

-- a place lies before z, or so many after it
abbrev pub StandsTo : ℤ → ℕ → Type 0
StandsTo z p = (pos p <ℤ z) ⊎ ((k : ℕ) × (pos p ≡ z +ℤ pos k))

pub stands_to : (z : ℤ) (p : ℕ) → StandsTo z p
stands_to (pos a) p = elim (cases_lt p a) [ inl v ↦ inl (omega (arith, ints, v)) | inr v ↦ inr (p - a, omega (arith, ints, v)) ]
stands_to (negsuc a) p = inr (p + suc a, omega (arith, ints))

pub from_before : (z : ℤ) (s : Stream) (p : ℕ) → pos p <ℤ z → letter_from z s p ≡ None
from_before (pos a) s p h =
    let l : p < a = omega (arith, ints, h) in
    grind (arith, nat_tests, l)
from_before (negsuc a) s p h = absurd (omega (arith, ints, h))

pub from_at : (z : ℤ) (s : Stream) (p k : ℕ) → pos p ≡ z +ℤ pos k → letter_from z s p ≡ letter_at s k
from_at (pos a) s p k h =
    let e : p ≡ a + k = omega (arith, ints, h) in
    let l : nat_lt p a ≡ false = grind (arith, nat_tests, e) in
    let m : p - a ≡ k = omega (arith, e) in
    rw (l, m) refl
from_at (negsuc a) s p k h =
    let e : k ≡ p + suc a = omega (arith, ints, h) in
    ap (letter_at s) (sym e)

-- the letters of bytes and what follows them
pub at_append : (xs ys : List ℕ) (ended : Bool) (k : ℕ) → length xs ≤ k → letter_at (record { bytes = xs ++ ys; ended = ended }) k ≡ letter_at (record { bytes = ys; ended = ended }) (k - length xs)
at_append xs ys ended k h =
    let n : length (xs ++ ys) ≡ length xs + length ys = length-append xs ys in
    let g : get_or (xs ++ ys) k 0 ≡ get_or ys (k - length xs) 0 = get_or-append_right xs ys (length xs) k 0 refl h in
    let a : nat_lt k (length (xs ++ ys)) ≡ nat_lt (k - length xs) (length ys) = rw n (grind (arith, nat_tests, h)) in
    let b : (k == length (xs ++ ys)) ≡ (k - length xs == length ys) = rw n (grind (arith, nat_tests, h)) in
    rw (a, b, g) refl

pub at_front : (xs ys : List ℕ) (ended : Bool) (k : ℕ) → k < length xs → letter_at (record { bytes = xs ++ ys; ended = ended }) k ≡ Some (Byte (get_or xs k 0))
at_front xs ys ended k h =
    let a : nat_lt k (length (xs ++ ys)) ≡ true = rw length-append (grind (arith, nat_tests, h)) in
    rw (a, get_or_append_left xs ys 0 k h) refl

pub at_all : (xs : List ℕ) (k : ℕ) → length xs ≤ k → letter_at (record { bytes = xs; ended = false }) k ≡ None
at_all xs k h = grind (arith, nat_tests, h)

pub at_byte : (xs : List ℕ) (ended : Bool) (k : ℕ) → k < length xs → letter_at (record { bytes = xs; ended = ended }) k ≡ Some (Byte (get_or xs k 0))
at_byte xs ended k h = grind (arith, nat_tests, h)

-- the letters of bytes at a place, and of what follows them
pub from_append : (z : ℤ) (xs ys : List ℕ) (ended : Bool) (p : ℕ) →
    letter_from z (record { bytes = xs ++ ys; ended = ended }) p
    ≡ option_or (letter_from z (record { bytes = xs; ended = false }) p) (letter_from (z +ℤ pos (length xs)) (record { bytes = ys; ended = ended }) p)
from_append z xs ys ended p =
    elim (stands_to z p) [
      | inl v ↦ rw (from_before z (record { bytes = xs ++ ys; ended = ended }) p v, from_before z (record { bytes = xs; ended = false }) p v, from_before (z +ℤ pos (length xs)) (record { bytes = ys; ended = ended }) p (omega (arith, ints, v))) refl
      | inr (k, e) ↦
          rw (from_at z (record { bytes = xs ++ ys; ended = ended }) p k e, from_at z (record { bytes = xs; ended = false }) p k e)
          (elim (cases_lt k (length xs)) [
            | inl v ↦ rw (at_front xs ys ended k v, at_byte xs false k v) refl
            | inr v ↦ rw (at_all xs k v, at_append xs ys ended k v) (sym (from_at (z +ℤ pos (length xs)) (record { bytes = ys; ended = ended }) p (k - length xs) (omega (arith, ints, e, v))))
          ])
    ]

-- where a letter stands
pub is_within : (z : ℤ) (xs : List ℕ) (p : ℕ) (l : Letter) → letter_from z (record { bytes = xs; ended = false }) p ≡ Some l → pos p <ℤ (z +ℤ pos (length xs))
is_within z xs p l h =
    elim (stands_to z p) [
      | inl v ↦ omega (arith, ints, v)
      | inr (k, e) ↦
          elim (cases_lt k (length xs)) [
            | inl v ↦ omega (arith, ints, e, v)
            | inr v ↦ (let n : None ≡ Some l = sym (at_all xs k v) ∙ sym (from_at z (record { bytes = xs; ended = false }) p k e) ∙ h in absurd (none-some l n))
          ]
    ]

pub is_behind : (z : ℤ) (s : Stream) (p : ℕ) (l : Letter) → letter_from z s p ≡ Some l → z ≤ℤ pos p
is_behind z s p l h =
    elim (stands_to z p) [
      | inl v ↦ (let n : None ≡ Some l = sym (from_before z s p v) ∙ h in absurd (none-some l n))
      | inr (k, e) ↦ omega (arith, ints, e)
    ]

-- after bytes there is none of them
pub none_of_bytes : (z : ℤ) (xs : List ℕ) (s : Stream) (p : ℕ) (l : Letter) → letter_from (z +ℤ pos (length xs)) s p ≡ Some l → letter_from z (record { bytes = xs; ended = false }) p ≡ None
none_of_bytes z xs s p l h =
    let b : (z +ℤ pos (length xs)) ≤ℤ pos p = is_behind (z +ℤ pos (length xs)) s p l h in
    elim (stands_to z p) [
      | inl v ↦ from_before z (record { bytes = xs; ended = false }) p v
      | inr (k, e) ↦ from_at z (record { bytes = xs; ended = false }) p k e ∙ at_all xs k (omega (arith, ints, b, e))
    ]

one_at : (l : Heard) → letter_at (stream_of l) 0 ≡ Some (letter_value l)
one_at (heard.Byte b) = refl
one_at heard.End = refl

none_at : (l : Heard) (k : ℕ) → 0 < k → letter_at (stream_of l) k ≡ None
none_at (heard.Byte b) k h = grind (arith, nat_tests, h)
none_at heard.End k h = grind (arith, nat_tests, h)

-- the one letter of a stream of one
pub from_one : (z : ℤ) (l : Heard) (p : ℕ) → pos p ≡ z → letter_from z (stream_of l) p ≡ Some (letter_value l)
from_one z l p e = from_at z (stream_of l) p 0 (omega (arith, ints, e)) ∙ one_at l

pub from_none : (z : ℤ) (l : Heard) (p : ℕ) → pos p ≢ z → letter_from z (stream_of l) p ≡ None
from_none z l p d =
    elim (stands_to z p) [
      | inl v ↦ from_before z (stream_of l) p v
      | inr (k, e) ↦ from_at z (stream_of l) p k e ∙ none_at l k (omega (arith, ints, e, d))
    ]

-- letters and a place moved alike
pub shifted : (z : ℤ) (s : Stream) (p k : ℕ) → letter_from (z +ℤ pos k) s (p + k) ≡ letter_from z s p
shifted z s p k =
    elim (stands_to z p) [
      | inl v ↦ from_before (z +ℤ pos k) s (p + k) (omega (arith, ints, v)) ∙ sym (from_before z s p v)
      | inr (n, e) ↦ from_at (z +ℤ pos k) s (p + k) n (omega (arith, ints, e)) ∙ sym (from_at z s p n e)
    ]
