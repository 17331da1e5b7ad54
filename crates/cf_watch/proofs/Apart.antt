-- Letters with their records, which stand apart from the bytes of their flow.
use Rattle.std.proofs.Common.{◌≡◌, ◌≢◌, ◌==◌, ◌+◌, ◌^◌, ◌≤◌, ◌+ℤ◌, ℕ, ℤ, pos, Bool, true, false, nat_le, nat_lt, List, ◌++◌, length, Option, Some, None, option_map, is_some, refl, sym, ap, ◌∙◌, inl, inr, arith}
use Rattle.std.proofs.lemmas.Bool.{cases_eq, cases_lt, true≢false, false≢true}
use Rattle.std.proofs.lemmas.Bool.Decides.{nat_tests}
use Rattle.std.proofs.lemmas.Int.{ints}
use Rattle.std.proofs.lemmas.Option.{none-some}
use Rattle.std.specs.BTreeMap.{BTreeMap}
use Rattle.std.specs.Option.{option_or}
use Rattle.cf_stream.specs.Stream.{Letter, Stream, letter_from}
use Rattle.cf_watch.specs.Carried.{Carried}
use Rattle.cf_watch.specs.Kept.{Holds, kept, known, letter_value, stream_of}
use Rattle.cf_watch.specs.Stretches.{FirstLetter, is_own, letter_came}
use Rattle.cf_watch.specs.declared.ahead.Portion.{Portion}
use Rattle.cf_watch.specs.declared.letter.Letter.{Letter as Heard}
use Rattle.cf_watch.proofs.Letters.{from_append, from_none, from_one}

pub first_or_none : (x : Option FirstLetter) → option_or x None ≡ x
first_or_none None = refl
first_or_none (Some l) = refl

pub first_or_assoc : (x y z : Option FirstLetter) → option_or (option_or x y) z ≡ option_or x (option_or y z)
first_or_assoc None y z = refl
first_or_assoc (Some l) y z = refl

some_or : (x y : Option FirstLetter) → is_some x ≡ true → option_or x y ≡ x
some_or None y h = absurd (false≢true h)
some_or (Some l) y h = refl

map_or : (f : Letter → FirstLetter) (x y : Option Letter) → option_map f (option_or x y) ≡ option_or (option_map f x) (option_map f y)
map_or f None y = refl
map_or f (Some l) y = refl

-- a place that is none of more bytes is none of fewer
pub own_less : (m n q : ℕ) → m ≤ n → is_own n q ≡ false → is_own m q ≡ false
own_less m n q h i =
    elim (cases_lt q (2 ^ 31)) [
      | inl v ↦ (let e : nat_le (2 ^ 31) q ≡ false = grind (arith, nat_tests, v) in rw e refl)
      | inr v ↦
          elim (cases_lt q (2 ^ 31 + n)) [
            | inl w ↦ (let a : nat_le (2 ^ 31) q ≡ true = grind (arith, nat_tests, v) in
                let b : nat_lt q (2 ^ 31 + n) ≡ true = grind (arith, nat_tests, w) in
                let t : is_own n q ≡ true = rw (a, b) refl in
                absurd (true≢false (sym t ∙ i)))
            | inr w ↦ (let b : nat_lt q (2 ^ 31 + m) ≡ false = grind (arith, nat_tests, w, h) in
                let a : nat_le (2 ^ 31) q ≡ true = grind (arith, nat_tests, v) in
                rw (a, b) refl)
          ]
    ]

-- a place past position 0 that is none of the bytes
pub own_not : (n p : ℕ) → is_own n (p + 2 ^ 31) ≡ false → n ≤ p
own_not n p i =
    elim (cases_lt p n) [
      | inl w ↦ (let a : nat_le (2 ^ 31) (p + 2 ^ 31) ≡ true = grind (arith, nat_tests) in
          let b : nat_lt (p + 2 ^ 31) (2 ^ 31 + n) ≡ true = grind (arith, nat_tests, w) in
          let t : is_own n (p + 2 ^ 31) ≡ true = rw (a, b) refl in
          absurd (true≢false (sym t ∙ i)))
      | inr w ↦ w
    ]

-- the letter of a packet of one letter
abbrev pub one_of : ℕ → ℤ → Heard → Carried
one_of number z l = record { number = number; at = z; text = stream_of l }

abbrev pub first_of : ℕ → Heard → FirstLetter
first_of number l = record { letter = letter_value l; number = number }

came_here : (number : ℕ) (z : ℤ) (l : Heard) (q : ℕ) → pos q ≡ z +ℤ pos (2 ^ 31) → letter_came (one_of number z l) q ≡ Some (first_of number l)
came_here number z l q e = ap (option_map (λ (x : Letter). let r : FirstLetter = record { letter = x; number = number } in r)) (from_one (z +ℤ pos (2 ^ 31)) l q e)

came_elsewhere : (number : ℕ) (z : ℤ) (l : Heard) (q : ℕ) → pos q ≢ z +ℤ pos (2 ^ 31) → letter_came (one_of number z l) q ≡ None
came_elsewhere number z l q d = ap (option_map (λ (x : Letter). let r : FirstLetter = record { letter = x; number = number } in r)) (from_none (z +ℤ pos (2 ^ 31)) l q d)

pub came_append : (number : ℕ) (at : ℤ) (xs ys : List ℕ) (ended : Bool) (q : ℕ) →
    letter_came (record { number = number; at = at; text = record { bytes = xs ++ ys; ended = ended } }) q
    ≡ option_or (letter_came (record { number = number; at = at; text = record { bytes = xs; ended = false } }) q)
    (letter_came (record { number = number; at = at +ℤ pos (length xs); text = record { bytes = ys; ended = ended } }) q)
came_append number at xs ys ended q =
    let f : Letter → FirstLetter = λ x. record { letter = x; number = number } in
    let e : (at +ℤ pos (2 ^ 31)) +ℤ pos (length xs) ≡ (at +ℤ pos (length xs)) +ℤ pos (2 ^ 31) = omega (arith, ints) in
    let whole = from_append (at +ℤ pos (2 ^ 31)) xs ys ended q in
    let s : Stream = record { bytes = xs; ended = false } in
    let t : Stream = record { bytes = ys; ended = ended } in
    ap (option_map f) (whole ∙ ap (λ (z : ℤ). option_or (letter_from (at +ℤ pos (2 ^ 31)) s q) (letter_from z t q)) e)
    ∙ map_or f (letter_from (at +ℤ pos (2 ^ 31)) s q) (letter_from ((at +ℤ pos (length xs)) +ℤ pos (2 ^ 31)) t q)

-- a letter where one was kept
pub came_kept : (number : ℕ) (z : ℤ) (l : Heard) (a : BTreeMap ℕ Portion) (key : ℕ) → pos key ≡ z +ℤ pos (2 ^ 31) → is_some (kept a key) ≡ true → (q : ℕ) →
    kept a q ≡ option_or (kept a q) (letter_came (one_of number z l) q)
came_kept number z l a key e h q =
    elim (cases_eq q key) [
      | inl i ↦ sym (some_or (kept a q) (letter_came (one_of number z l) q) (ap (λ (k : ℕ). is_some (kept a k)) i ∙ h))
      | inr d ↦ sym (ap (option_or (kept a q)) (came_elsewhere number z l q (λ x. d (omega (arith, ints, x, e)))) ∙ first_or_none (kept a q))
    ]

-- a letter of another place
pub came_not : (number : ℕ) (z : ℤ) (l : Heard) (a : BTreeMap ℕ Portion) (q : ℕ) → pos q ≢ z +ℤ pos (2 ^ 31) →
    kept a q ≡ option_or (kept a q) (letter_came (one_of number z l) q)
came_not number z l a q d = sym (ap (option_or (kept a q)) (came_elsewhere number z l q d) ∙ first_or_none (kept a q))

ne-eqb : (a b : ℕ) → a ≢ b → (a == b) ≡ false
ne-eqb a b d = grind (arith, nat_tests, d)

kept_by : (o : Option FirstLetter) (l : Letter) → option_map (λ c. c.letter) o ≡ Some l → is_some o ≡ true
kept_by None l h = absurd (none-some l h)
kept_by (Some c) l h = refl

-- a letter that is known, and is none of the bytes
pub known_kept : (bytes : List ℕ) (a : BTreeMap ℕ Portion) (p : ℕ) (l : Letter) → known bytes a p ≡ Some l → length bytes ≤ p → is_some (kept a (p + 2 ^ 31)) ≡ true
known_kept bytes a p l h i =
    let m : nat_lt p (length bytes) ≡ false = grind (arith, nat_tests, i) in
    kept_by (kept a (p + 2 ^ 31)) l (rw m at h)

-- two packets one after the other
pub holds_both : (number : ℕ) (at : ℤ) (xs ys : List ℕ) (ended : Bool) (a b c : BTreeMap ℕ Portion) (m n : ℕ) → m ≤ n →
    Holds (record { number = number; at = at; text = record { bytes = xs; ended = false } }) a m b →
    Holds (record { number = number; at = at +ℤ pos (length xs); text = record { bytes = ys; ended = ended } }) b n c →
    Holds (record { number = number; at = at; text = record { bytes = xs ++ ys; ended = ended } }) a n c
holds_both number at xs ys ended a b c m n less h i = λ q none.
    let front : Carried = record { number = number; at = at; text = record { bytes = xs; ended = false } } in
    let back : Carried = record { number = number; at = at +ℤ pos (length xs); text = record { bytes = ys; ended = ended } } in
    i q none ∙ ap (λ (o : Option FirstLetter). option_or o (letter_came back q)) (h q (own_less m n q less none))
    ∙ first_or_assoc (kept a q) (letter_came front q) (letter_came back q) ∙ ap (option_or (kept a q)) (sym (came_append number at xs ys ended q))
