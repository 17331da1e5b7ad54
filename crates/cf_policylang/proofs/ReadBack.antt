-- What was written of a number or of a range of numbers is read as that.
use Rattle.std.proofs.Common.{◌≡◌, ◌≢◌, ◌∙◌, ℕ, suc, ◌<◌, ◌==◌, ◌&&◌, ℤ, pos, negsuc, neg_ℤ, ◌≤ℤ◌, int_le, true, false, if◌then◌else◌, List, [], ◌∷◌, ◌++◌, length, All, Option, Some, None, unwrap_or, ap, refl, arith, w64, FitsSigned, nat_eq, codes, int_eq}
use Rattle.std.proofs.lemmas.Str.Parse.{digit_from_value}
use Rattle.std.specs.Fmt.{decimal, signed_decimal}
use Rattle.std.specs.List.{starts_with}
use Rattle.std.specs.Str.Parse.{AllDigits, digits_value, signed_digits_value}
use Rattle.std.proofs.lemmas.Bool.Decides.{nat_tests}
use Rattle.std.proofs.lemmas.Fmt.{decimal_is_IsNumeral}
use Rattle.std.proofs.lemmas.Int.{ints}
use Rattle.std.proofs.lemmas.List.Elements.{All-nil, All-cons}
use Rattle.std.proofs.lemmas.Slice.Eq.{bytes_eq-Decides}
use Rattle.cf_policy.specs.declared.policy.Span.{Span}
use Rattle.cf_policy.specs.Within.{IsSpanWithin}
use Rattle.cf_policylang.specs.Numbers.{ends, number_span, printed_number, printed_number_in, span_by, split_at_mark, within}
use Rattle.cf_policylang.specs.Spelling.{number_text}
use Rattle.cf_policylang.proofs.Printed.{fits}

-- ---- the digits of a number

digits_plain : (ds : List ℕ) → AllDigits 10 ds → 0 < length ds → signed_digits_value 10 ds ≡ pos (digits_value 10 ds)
digits_plain [] d some = absurd (omega arith)
digits_plain (c ∷ cs) d some =
    let digit = digit_from_value c d.0 in
    let no_minus : (c == 45) ≡ false = grind (arith, nat_tests) in
    let no_plus : (c == 43) ≡ false = grind (arith, nat_tests) in
    rw (no_minus, no_plus) refl

value_read : (z : ℤ) → FitsSigned w64 z → signed_digits_value 10 (signed_decimal z) ≡ z
value_read (pos n) f = let k = decimal_is_IsNumeral n (omega (arith, f.sfits)) in digits_plain (decimal n) k.0.1 k.0.0 ∙ ap pos k.1
value_read (negsuc n) f = let k = decimal_is_IsNumeral (suc n) (omega (arith, f.sfits)) in ap (λ m. neg_ℤ (pos m)) k.1

printed_read : (z : ℤ) → FitsSigned w64 z → printed_number (signed_decimal z) ≡ Some z
printed_read z f = rw (value_read z f, (bytes_eq-Decides (signed_decimal z) (signed_decimal z)).1 refl) refl

pub inside : (low high z : ℤ) → low ≤ℤ z → z ≤ℤ high → within low high z ≡ Some z
inside low high z a b = let e : (int_le low z && int_le z high) ≡ true = grind (arith, ints) in rw e refl

pub in_range_read : (low high z : ℤ) → FitsSigned w64 z → low ≤ℤ z → z ≤ℤ high → printed_number_in low high (signed_decimal z) ≡ Some z
in_range_read low high z f a b = rw (printed_read z f) (inside low high z a b)

-- ---- a range

abbrev pub IsPlain : List ℕ → Type 0
IsPlain text = All (λ c. c ≢ 46) text

pub plain_digits : (ds : List ℕ) → AllDigits 10 ds → IsPlain ds
plain_digits [] d = All-nil (λ c. c ≢ 46)
plain_digits (c ∷ cs) d =
    All-cons (λ c. c ≢ 46) c cs (λ e. let digit = digit_from_value c d.0 in omega arith) (plain_digits cs d.1)

pub plain_number : (z : ℤ) → FitsSigned w64 z → IsPlain (signed_decimal z)
plain_number (pos n) f = plain_digits (decimal n) (decimal_is_IsNumeral n (omega (arith, f.sfits))).0.1
plain_number (negsuc n) f =
    All-cons (λ c. c ≢ 46) 45 (decimal (suc n)) (λ e. omega arith) (plain_digits (decimal (suc n)) (decimal_is_IsNumeral (suc n) (omega (arith, f.sfits))).0.1)

pub not_here : (c : ℕ) (s mark : List ℕ) → c ≢ 46 → starts_with nat_eq (c ∷ s) (46 ∷ mark) ≡ false
not_here c s mark ne = let apart : nat_eq 46 c ≡ false = grind (arith, nat_tests) in rw apart refl

pub lacks_mark : (mark s : List ℕ) → IsPlain s → split_at_mark (46 ∷ mark) s ≡ None
lacks_mark mark [] h = refl
lacks_mark mark (c ∷ cs) h =
    rw (not_here c cs mark (h 0 c (omega arith)), lacks_mark mark cs (λ i d lt. h (suc i) d (omega (arith, lt)))) refl

-- the first mark is the one after a text without it
pub finds_mark : (mark front back : List ℕ) → split_at_mark (46 ∷ mark) ((46 ∷ mark) ++ back) ≡ Some ([], back) → IsPlain front
    → split_at_mark (46 ∷ mark) (front ++ ((46 ∷ mark) ++ back)) ≡ Some (front, back)
finds_mark mark [] back at_front h = at_front
finds_mark mark (c ∷ cs) back at_front h =
    rw (not_here c (cs ++ ((46 ∷ mark) ++ back)) mark (h 0 c (omega arith)), finds_mark mark cs back at_front (λ i d lt. h (suc i) d (omega (arith, lt)))) refl

ends_of_one : (text : List ℕ) → IsPlain text → ends text ≡ (text, text)
ends_of_one text h = ap (λ o. unwrap_or o (text, text)) (lacks_mark (46 ∷ []) text h)

ends_of_two : (front back : List ℕ) → IsPlain front → ends (front ++ (codes ".." ++ back)) ≡ (front, back)
ends_of_two front back h =
    ap (λ o. unwrap_or o (front ++ (codes ".." ++ back), front ++ (codes ".." ++ back))) (finds_mark (46 ∷ []) front back refl h)

-- a range whose ends are read as they were printed is read as it was written
pub span_by_read : (low high : ℤ) (read : List ℕ → Option ℤ) → ((z : ℤ) → FitsSigned w64 z → low ≤ℤ z → z ≤ℤ high → read (signed_decimal z) ≡ Some z)
    → (s : Span) → FitsSigned w64 low → FitsSigned w64 high → IsSpanWithin low high s → span_by read (number_text s) ≡ Some s
span_by_read low high read reads s l h w =
    let first : FitsSigned w64 s.low = fits low high s.low l h w.above (omega (arith, ints, w.ordered, w.below)) in
    let last : FitsSigned w64 s.high = fits low high s.high l h (omega (arith, ints, w.above, w.ordered)) w.below in
    let front : read (signed_decimal s.low) ≡ Some s.low = reads s.low first w.above (omega (arith, ints, w.ordered, w.below)) in
    let back : read (signed_decimal s.high) ≡ Some s.high = reads s.high last (omega (arith, ints, w.above, w.ordered)) w.below in
    let ordered : int_le s.low s.high ≡ true = (let o = w.ordered in grind (arith, ints)) in
    elim (int_eq s.low s.high) as (λ b. int_eq s.low s.high ≡ b
    → span_by read (if b then signed_decimal s.low else signed_decimal s.low ++ (codes ".." ++ signed_decimal s.high)) ≡ Some s) [
      | true ↦ λ e.
          let same : s.low ≡ s.high = grind (arith, ints) in
          rw (ends_of_one (signed_decimal s.low) (plain_number s.low first), front) (rw (← same) (let to_self : int_le s.low s.low ≡ true = grind (arith, ints) in rw to_self refl))
      | false ↦ λ e.
          rw (ends_of_two (signed_decimal s.low) (signed_decimal s.high) (plain_number s.low first), front, back, ordered) refl
    ]
    refl

-- a range of numbers is read as it was written
pub span_read : (low high : ℤ) (s : Span) → FitsSigned w64 low → FitsSigned w64 high → IsSpanWithin low high s
    → number_span low high (number_text s) ≡ Some s
span_read low high s l h w = span_by_read low high (printed_number_in low high) (in_range_read low high) s l h w
