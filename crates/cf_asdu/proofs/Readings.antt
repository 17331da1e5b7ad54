-- Octets are one ASDU, and one answer about them is true.
use Rattle.std.proofs.Common.{◌≡◌, ℕ, ◌+◌, ◌*◌, ◌/◌, ◌%◌, ◌<◌, ◌≤◌, List, ◌∷◌, length, get_or, drop, Option, Some, None, Result, Ok, Err, inl, inr, refl, sym, ◌∙◌, ap, arith}
use Rattle.std.proofs.lemmas.Bool.{cases_lt}
use Rattle.cf_view.specs.Octets.{IsOctets, u16_le_at}
use Rattle.cf_view.proofs.Cells.{six_cells}
use Rattle.cf_view.proofs.OctetLists.{IsOctets-drop}
use Rattle.cf_asdu.specs.declared.asdu.AsduRefusal.{AsduRefusal}
use Rattle.cf_asdu.specs.declared.asdu.AsduRefusal.TheVariants as refusals
use Rattle.cf_asdu.specs.Asdu.{AsduValue, SpellsAsdu, Reads, first_refusal}

-- the ASDU of a list of octets
abbrev pub value_of : List ℕ → AsduValue
value_of xs =
    record {
      kind = get_or xs 0 0;
      number = get_or xs 1 0;
      cause = get_or xs 2 0;
      origin = get_or xs 3 0;
      station = u16_le_at xs 4;
      objects = drop 6 xs;
    }

station_cells : {a b c d e f e' f' : ℕ} {ys : List ℕ} → e ≡ e' → f ≡ f' → a ∷ b ∷ c ∷ d ∷ e ∷ f ∷ ys ≡ a ∷ b ∷ c ∷ d ∷ e' ∷ f' ∷ ys
station_cells p q = cc (p, q)

-- six octets or more are an ASDU
pub spelled : (xs : List ℕ) → IsOctets xs → 6 ≤ length xs → SpellsAsdu (value_of xs) xs
spelled xs o h =
    let low = o 4 in
    let high = o 5 in
    let e : (get_or xs 4 0 + get_or xs 5 0 * 256) % 256 ≡ get_or xs 4 0 = omega (arith, low) in
    let f : (get_or xs 4 0 + get_or xs 5 0 * 256) / 256 ≡ get_or xs 5 0 = omega (arith, low) in
    record {
      kind = o 0;
      number = o 1;
      cause = o 2;
      origin = o 3;
      station = omega (arith, low, high);
      objects = IsOctets-drop xs 6 o;
      spelled = six_cells xs h ∙ station_cells (sym e) (sym f);
    }

-- the fields are those that the octets tell
pub fields : (a : AsduValue) (xs : List ℕ) → SpellsAsdu a xs → a ≡ value_of xs
fields a xs s =
    let e : a.station % 256 + a.station / 256 * 256 ≡ a.station = omega arith in
    rw (s.spelled, e) refl

pub one_asdu : (a b : AsduValue) (xs : List ℕ) → SpellsAsdu a xs → SpellsAsdu b xs → a ≡ b
one_asdu a b xs s t = fields a xs s ∙ sym (fields b xs t)

-- the answer that the tests of an ASDU give
answer_by : Option AsduRefusal → AsduValue → Result AsduValue AsduRefusal
answer_by None a = Ok a
answer_by (Some e) a = Err e

tested : AsduValue → Result AsduValue AsduRefusal
tested a = answer_by (first_refusal a) a

told_by : (a : AsduValue) (xs : List ℕ) (r : Option AsduRefusal) → SpellsAsdu a xs → first_refusal a ≡ r → answer_by r a ≡ tested (value_of xs)
unfolding tested
told_by a xs r s e = ap (λ (o : Option AsduRefusal). answer_by o a) (sym e) ∙ ap tested (fields a xs s)

-- an answer about nine octets or more is the one that the tests give, and fewer are short
by_tests : (r : Result AsduValue AsduRefusal) (xs : List ℕ) → Reads r xs → 9 ≤ length xs → r ≡ tested (value_of xs)
unfolding answer_by
by_tests (Ok a) xs (s, l, e) h = told_by a xs None s e
by_tests (Err refusals.Short) xs t h = absurd (omega (arith, t, h))
by_tests (Err refusals.Kind) xs (a, (s, l, e)) h = told_by a xs (Some refusals.Kind) s e
by_tests (Err refusals.Shape) xs (a, (s, l, e)) h = told_by a xs (Some refusals.Shape) s e
by_tests (Err refusals.Cause) xs (a, (s, l, e)) h = told_by a xs (Some refusals.Cause) s e

by_length : (r : Result AsduValue AsduRefusal) (xs : List ℕ) → Reads r xs → length xs < 9 → r ≡ Err refusals.Short
by_length (Ok a) xs (s, l, e) h = absurd (omega (arith, l, h))
by_length (Err refusals.Short) xs t h = refl
by_length (Err refusals.Kind) xs (a, (s, l, e)) h = absurd (omega (arith, l, h))
by_length (Err refusals.Shape) xs (a, (s, l, e)) h = absurd (omega (arith, l, h))
by_length (Err refusals.Cause) xs (a, (s, l, e)) h = absurd (omega (arith, l, h))

-- one answer about octets is true
pub one_reading : (r s : Result AsduValue AsduRefusal) (xs : List ℕ) → Reads r xs → Reads s xs → r ≡ s
one_reading r s xs t u =
    elim (cases_lt (length xs) 9) [
      | inl h ↦ by_length r xs t h ∙ sym (by_length s xs u h)
      | inr h ↦ by_tests r xs t h ∙ sym (by_tests s xs u h)
    ]
