-- Numbers as they are printed, and how `parse` reads them.
use Rattle.std.proofs.Common.{◌≡◌, ℕ, zero, suc, ◌^◌, ◌<◌, ◌==◌, ◌≢◌, ◌&&◌, ℤ, pos, negsuc, neg_ℤ, ◌≤ℤ◌, int_le, true, false, ◌⊎◌, List, [], ◌∷◌, length, get_or, Some, None, Result, Ok, Err, bytes_eq, subst, sym, ◌∙◌, ap, refl, inl, inr, arith, w64, FitsSigned}
use mathlib.Core.Logic.{⊎_elim}
use lib.Signed.{mag}
use Rattle.std.specs.Fmt.{decimal, signed_decimal}
use Rattle.std.specs.Str.Parse.{AllDigits, IsNumeral, ParsesSigned, digits_value, signed_digits_value, without_leading_sign}
use Rattle.std.proofs.lemmas.Int.{ints}
use Rattle.std.proofs.lemmas.Fmt.{decimal-digits_value, decimal_digit, first_decimal, parse-signed_decimal}
use Rattle.std.proofs.lemmas.Bool.{true≢false}
use Rattle.std.proofs.lemmas.Bool.Decides.{nat_tests}
use Rattle.std.proofs.lemmas.Slice.Eq.{bytes_eq-Decides}
use Rattle.std.proofs.lemmas.Str.Parse.{IsNumeralModel, numerals_by_value, tells_digits}
use Rattle.cf_policylang.specs.Numbers.{has_spare, printed_number, printed_number_in, within}

model : IsNumeralModel (AllDigits 10) (digits_value 10)
model = numerals_by_value (AllDigits 10) tells_digits

-- in the range, or outside it
pub within_cases : (low high z : ℤ) → (within low high z ≡ None) ⊎ ((within low high z ≡ Some z) × (low ≤ℤ z) × (z ≤ℤ high))
within_cases low high z =
    elim (int_le low z && int_le z high) as (λ b. (int_le low z && int_le z high) ≡ b → (within low high z ≡ None) ⊎ ((within low high z ≡ Some z) × (low ≤ℤ z) × (z ≤ℤ high))) [
      | true ↦ λ e. inr (rw e refl, grind (arith, ints), grind (arith, ints))
      | false ↦ λ e. inl (rw e refl)
    ]
    refl

pub fits : (low high z : ℤ) → FitsSigned w64 low → FitsSigned w64 high → low ≤ℤ z → z ≤ℤ high → FitsSigned w64 z
fits low (pos m) (pos n) l h a b = record { sfits = omega (arith, ints) }
fits low (negsuc m) (pos n) l h a b = record { sfits = omega (arith, ints) }
fits (pos k) high (negsuc n) l h a b = record { sfits = omega (arith, ints) }
fits (negsuc k) high (negsuc n) l h a b = record { sfits = omega (arith, ints) }

pub number_cases : (text : List ℕ) → (printed_number text ≡ None) ⊎ ((z : ℤ) × (printed_number text ≡ Some z) × (text ≡ signed_decimal z))
number_cases text =
    let z = signed_digits_value 10 text in
    elim (bytes_eq text (signed_decimal z)) as (λ b. bytes_eq text (signed_decimal z) ≡ b → (printed_number text ≡ None) ⊎ ((y : ℤ) × (printed_number text ≡ Some y) × (text ≡ signed_decimal y))) [
      | true ↦ λ e. inr (z, rw e refl, (bytes_eq-Decides text (signed_decimal z)).0 e)
      | false ↦ λ e. inl (rw e refl)
    ]
    refl

-- a digit above `0` stands in front, with or without a sign before it
high_front : (ds : List ℕ) → 48 < get_or ds 0 0 → has_spare ds ≡ false
high_front [] h = absurd (omega arith)
high_front (d ∷ ds) h = grind (arith, nat_tests)

high_behind_minus : (ds : List ℕ) → 48 < get_or ds 0 0 → has_spare (45 ∷ ds) ≡ false
high_behind_minus [] h = absurd (omega arith)
high_behind_minus (d ∷ ds) h = grind (arith, nat_tests)

-- a printed printed_number has nothing to spare
pub printed_plain : (z : ℤ) → FitsSigned w64 z → has_spare (signed_decimal z) ≡ false
printed_plain (pos zero) f = rw (decimal_digit 0 (omega arith)) refl
printed_plain (pos (suc n)) f = high_front (decimal (suc n)) (first_decimal (suc n) (omega arith) (omega (arith, f.sfits)))
printed_plain (negsuc n) f = high_behind_minus (decimal (suc n)) (first_decimal (suc n) (omega arith) (omega (arith, f.sfits)))

small : (v : ℕ) → mag (neg_ℤ (pos v)) < 2 ^ 63 → v < 2 ^ 64
small zero h = omega arith
small (suc m) h = omega arith

negative_of : (v : ℕ) (bs : List ℕ) → decimal v ≡ bs → get_or bs 0 0 ≢ 48 → 45 ∷ bs ≡ signed_decimal (neg_ℤ (pos v))
negative_of zero bs e high = absurd (high (ap (λ l. get_or l 0 0) (sym e ∙ decimal_digit 0 (omega arith))))
negative_of (suc m) bs e high = ap (λ l. 45 ∷ l) (sym e)

negative : (bs : List ℕ) → get_or bs 0 0 ≢ 48 → IsNumeral 10 bs → mag (neg_ℤ (pos (digits_value 10 bs))) < 2 ^ 63
    → 45 ∷ bs ≡ signed_decimal (neg_ℤ (pos (digits_value 10 bs)))
negative bs high digits fit =
    negative_of (digits_value 10 bs) bs (decimal-digits_value model bs digits.1 digits.0 (λ e. absurd (high e)) (small (digits_value 10 bs) fit)) high

after_minus : (bs : List ℕ) → has_spare (45 ∷ bs) ≡ false → 0 < length bs → get_or bs 0 0 ≢ 48
after_minus [] plain some = absurd (omega arith)
after_minus (d ∷ ds) plain some = λ e. grind (arith, nat_tests)

minus : (b : ℕ) (bs : List ℕ) → (b == 45) ≡ true → has_spare (b ∷ bs) ≡ false → IsNumeral 10 (without_leading_sign (b ∷ bs))
    → FitsSigned w64 (signed_digits_value 10 (b ∷ bs)) → b ∷ bs ≡ signed_decimal (signed_digits_value 10 (b ∷ bs))
minus b bs e plain numeral f =
    let is : b ≡ 45 = grind (arith, nat_tests) in
    let value : signed_digits_value 10 (b ∷ bs) ≡ neg_ℤ (pos (digits_value 10 bs)) = rw e refl in
    let behind : without_leading_sign (b ∷ bs) ≡ bs = rw e refl in
    let digits : IsNumeral 10 bs = subst (IsNumeral 10) behind numeral in
    let plain_after : has_spare (45 ∷ bs) ≡ false = rw is at plain in
    let fit : mag (neg_ℤ (pos (digits_value 10 bs))) < 2 ^ 63 = subst (λ z. mag z < 2 ^ 63) value f.sfits in
    rw (value, is) (negative bs (after_minus bs plain_after digits.0) digits fit)

-- a zero in front is the only digit
alone : (b : ℕ) (bs : List ℕ) → has_spare (b ∷ bs) ≡ false → b ≡ 48 → length (b ∷ bs) ≡ 1
alone b [] plain zero_front = refl
alone b (d ∷ ds) plain zero_front = grind (arith, nat_tests)

no_minus : (b : ℕ) (bs : List ℕ) → (b == 45) ≡ false → has_spare (b ∷ bs) ≡ false → IsNumeral 10 (without_leading_sign (b ∷ bs))
    → FitsSigned w64 (signed_digits_value 10 (b ∷ bs)) → b ∷ bs ≡ signed_decimal (signed_digits_value 10 (b ∷ bs))
no_minus b bs e plain numeral f =
    let no_plus : (b == 43) ≡ false = grind (arith, nat_tests) in
    let value : signed_digits_value 10 (b ∷ bs) ≡ pos (digits_value 10 (b ∷ bs)) = rw (e, no_plus) refl in
    let whole : without_leading_sign (b ∷ bs) ≡ b ∷ bs = rw (e, no_plus) refl in
    let digits : IsNumeral 10 (b ∷ bs) = subst (IsNumeral 10) whole numeral in
    let fit : digits_value 10 (b ∷ bs) < 2 ^ 63 = subst (λ z. mag z < 2 ^ 63) value f.sfits in
    rw value (sym (decimal-digits_value model (b ∷ bs) digits.1 digits.0 (alone b bs plain) (omega arith)))

-- digits with nothing to spare are printed so
pub plain_printed : (text : List ℕ) → has_spare text ≡ false → IsNumeral 10 (without_leading_sign text) → FitsSigned w64 (signed_digits_value 10 text)
    → text ≡ signed_decimal (signed_digits_value 10 text)
plain_printed [] plain numeral f = absurd (omega (arith, numeral.0))
plain_printed (b ∷ bs) plain numeral f =
    elim (b == 45) as (λ t. (b == 45) ≡ t → b ∷ bs ≡ signed_decimal (signed_digits_value 10 (b ∷ bs))) [
      | true ↦ λ e. minus b bs e plain numeral f
      | false ↦ λ e. no_minus b bs e plain numeral f
    ]
    refl

-- a printed_number that fits is in no range, or it is printed as `parse` reads it
in_no_range : (low high : ℤ) (text : List ℕ) → FitsSigned w64 low → FitsSigned w64 high
    → ((z : ℤ) → FitsSigned w64 z → text ≡ signed_decimal z → ⊥) → printed_number_in low high text ≡ None
in_no_range low high text l h none =
    ⊎_elim
    (λ e. rw e refl)
    (λ s. ⊎_elim
    (λ out. rw (s.1, out) refl)
    (λ inside. absurd (none s.0 (fits low high s.0 l h inside.1 inside.2) s.2))
    (within_cases low high s.0))
    (number_cases text)

pub spare_none : (low high : ℤ) (text : List ℕ) → FitsSigned w64 low → FitsSigned w64 high → has_spare text ≡ true → printed_number_in low high text ≡ None
spare_none low high text l h spare =
    in_no_range low high text l h (λ z f e. true≢false (sym spare ∙ (ap has_spare e ∙ printed_plain z f)))

pub unread_none : {E : Type 0} (low high : ℤ) (text : List ℕ) (e : E) → FitsSigned w64 low → FitsSigned w64 high
    → ParsesSigned {E = E} w64 10 text (Err e) → printed_number_in low high text ≡ None
unread_none {E} low high text e l h unread =
    in_no_range low high text l h
    (λ z f is. let read : ◌≡◌ {A = Result ℤ E} (Err e) (Ok z) = parse-signed_decimal w64 z text (Err e) f f.sfits is unread in cc)

pub read_within : (low high : ℤ) (text : List ℕ) (n : ℤ) → has_spare text ≡ false
    → (IsNumeral 10 (without_leading_sign text) × FitsSigned w64 (signed_digits_value 10 text)) × (n ≡ signed_digits_value 10 text)
    → printed_number_in low high text ≡ within low high n
read_within low high text n plain read =
    let printed : text ≡ signed_decimal (signed_digits_value 10 text) = plain_printed text plain read.0.0 read.0.1 in
    let same : bytes_eq text (signed_decimal (signed_digits_value 10 text)) ≡ true = (bytes_eq-Decides text (signed_decimal (signed_digits_value 10 text))).1 printed in
    rw (same, ← read.1) refl
