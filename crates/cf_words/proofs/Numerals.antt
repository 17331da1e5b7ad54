-- Numbers as they are printed.
use Rattle.std.proofs.Common.{◌≡◌, ℕ, ◌<◌, ◌^◌, Bool, true, false, ◌&&◌, List, Some, None, Result, Ok, Err, refl, sym, ap, ◌∙◌, nat_lt, if◌then◌else◌}
use Rattle.std.specs.Prelude.{bytes_eq, decimal}
use Rattle.std.specs.Str.Parse.{digits_value, ParsesUnsigned}
use Rattle.std.proofs.lemmas.Bool.{and_parts, and_from, ltb-true, lt-ltb}
use Rattle.std.proofs.lemmas.Fmt.{decimal_is_IsNumeral, parse-decimal}
use Rattle.std.proofs.lemmas.Slice.Eq.{bytes_eq-Decides}
use Rattle.cf_words.specs.Names.{printed_number}

none_unless : (b : Bool) (n : ℕ) → (b ≡ true → ⊥) → (if b then Some n else None) ≡ None
none_unless true n never = absurd (never refl)
none_unless false n never = refl

some_where : (b : Bool) (n : ℕ) → b ≡ true → (if b then Some n else None) ≡ Some n
some_where b n passes = rw passes refl

-- a text that is not how a number is printed is no number
pub printed_number_none : (text : List ℕ) → ((n : ℕ) → n < 2 ^ 64 → text ≡ decimal n → ⊥) → printed_number text ≡ None
printed_number_none text never =
    none_unless (nat_lt (digits_value 10 text) (2 ^ 64) && bytes_eq text (decimal (digits_value 10 text))) (digits_value 10 text)
    (λ passes.
    let parts = and_parts (nat_lt (digits_value 10 text) (2 ^ 64)) (bytes_eq text (decimal (digits_value 10 text))) passes in
    never (digits_value 10 text) (ltb-true _ _ parts.0) ((bytes_eq-Decides text (decimal (digits_value 10 text))).0 parts.1))

-- a number as it is printed is that number
pub printed_number_some : (text : List ℕ) (n : ℕ) → n < 2 ^ 64 → text ≡ decimal n → printed_number text ≡ Some n
printed_number_some text n below is =
    let value : digits_value 10 text ≡ n = ap (digits_value 10) is ∙ (decimal_is_IsNumeral n below).1 in
    some_where (nat_lt (digits_value 10 text) (2 ^ 64) && bytes_eq text (decimal (digits_value 10 text))) (digits_value 10 text)
    (and_from _ _ (rw value (lt-ltb n (2 ^ 64) below)) ((bytes_eq-Decides text (decimal (digits_value 10 text))).1 (is ∙ ap decimal (sym value))))
    ∙ ap Some value

module _ {E : Type 0} (text : List ℕ) (r : Result ℕ E) (parses : ParsesUnsigned 64 10 text r) where
  -- a text that is not read is no number
  pub unread : (e : E) → r ≡ Err e → None ≡ printed_number text
  unread e is = sym (printed_number_none text (λ n below printed. cc (parse-decimal 64 n text r below below printed parses)))

  -- nor is one that is read as a number that is printed otherwise
  pub misread : (n : ℕ) → r ≡ Ok n → (text ≡ decimal n → ⊥) → None ≡ printed_number text
  misread n is other =
      sym (printed_number_none text (λ m below printed.
      let same : m ≡ n = cc (parse-decimal 64 m text r below below printed parses) in
      other (printed ∙ ap decimal same)))
