-- Octets that are right at each place are an APDU as it is spelled, and the other way round.
use Rattle.std.proofs.Common.{◌≡◌, ℕ, zero, suc, ◌+◌, ◌*◌, ◌/◌, ◌%◌, ◌<◌, ◌≤◌, ◌==◌, ◌&&◌, ◌||◌, nat_le, Bool, true, false, List, [], ◌∷◌, length, get_or, drop, inl, inr, refl, sym, ◌∙◌, subst, arith}
use Rattle.std.proofs.lemmas.Bool.{and_parts, cases_Bool, false≢true}
use Rattle.std.proofs.lemmas.Bool.Decides.{nat_tests}
use Rattle.std.proofs.lemmas.List.{length-drop}
use Rattle.cf_view.specs.Octets.{IsOctets, u16_le_at}
use Rattle.cf_view.specs.Places.{EachFollows, IsUnit, SpellsBy}
use Rattle.cf_view.proofs.Cells.{six_cells}
use Rattle.cf_view.proofs.OctetLists.{IsOctets-drop}
use Rattle.cf_apci.specs.Apdu.{ApduValue, Info, Ack, Control, is_control, spelling, Fits, SpellsApdu}
use Rattle.cf_apci.specs.Places.{size_of, is_third, is_fourth, is_right, follows, fields_of}
use Rattle.cf_apci.proofs.Places.{size_long, size_least, six, past, follows_front}

is_equal : (a b : ℕ) → (a == b) ≡ true → a ≡ b
is_equal a b h = grind (arith, nat_tests)

between : (n : ℕ) → nat_le 4 n && nat_le n 253 ≡ true → (4 ≤ n) × (n ≤ 253)
between n h = grind (arith, nat_tests)

between_is : (n : ℕ) → n ≤ 249 → nat_le 4 (n + 4) && nat_le (n + 4) 253 ≡ true
between_is n h = grind (arith, nat_tests)

format_even : (f : ℕ) → (f % 2 == 0) ≡ true → f % 2 ≡ 0
format_even f h = is_equal (f % 2) 0 h

or_right : (a b : Bool) → a ≡ false → a || b ≡ true → b ≡ true
or_right true b e h = absurd (false≢true (sym e))
or_right false b e h = h

same_cells : {a b c d e f a' b' c' d' e' f' : ℕ} {ys zs : List ℕ} → a ≡ a' → b ≡ b' → c ≡ c' → d ≡ d' → e ≡ e' → f ≡ f' → ys ≡ zs →
    a ∷ b ∷ c ∷ d ∷ e ∷ f ∷ ys ≡ a' ∷ b' ∷ c' ∷ d' ∷ e' ∷ f' ∷ zs
same_cells p q r s t u v = cc (p, q, r, s, t, u, v)

nothing : (xs : List ℕ) → length xs ≡ 0 → xs ≡ []
nothing [] h = refl
nothing (x ∷ xs) h = absurd (omega (arith, h))

-- octets that are right are spelled from their fields
module _ (xs : List ℕ) (u : IsUnit follows size_of xs) where
  long : 6 ≤ length xs
  long = omega (arith, u.whole, size_least xs)

  right : (p : ℕ) → p < 6 → is_right xs p (get_or xs p 0) ≡ true
  right p h = sym (follows_front xs p (get_or xs p 0) (omega (arith, long, h))) ∙ u.right p (omega (arith, long, h))

  first : get_or xs 0 0 ≡ 0x68
  first = is_equal (get_or xs 0 0) 0x68 (right 0 (omega arith))

  limits : (4 ≤ get_or xs 1 0) × (get_or xs 1 0 ≤ 253)
  limits = between (get_or xs 1 0) (right 1 (omega arith))

  size : length xs ≡ get_or xs 1 0 + 2
  size = (let l = limits in let w = u.whole ∙ size_long xs (omega (arith, long)) in omega (arith, w, l.0))

  left : length (drop 6 xs) + 4 ≡ get_or xs 1 0
  left = omega (arith, size, length-drop 6 xs, limits.0)

  of_info : (get_or xs 2 0 % 2 == 0) ≡ true → SpellsApdu (Info (u16_le_at xs 2 / 2) (u16_le_at xs 4 / 2) (drop 6 xs)) xs
  of_info e =
      let x2 = get_or xs 2 0 in
      let x3 = get_or xs 3 0 in
      let x4 = get_or xs 4 0 in
      let x5 = get_or xs 5 0 in
      let even = format_even x2 e in
      let third : is_third x2 x4 ≡ true = right 4 (omega arith) in
      let low : x4 % 2 ≡ 0 = format_even x4 (rw e at third) in
      let o2 = u.octets_are 2 in
      let o3 = u.octets_are 3 in
      let o4 = u.octets_are 4 in
      let o5 = u.octets_are 5 in
      let a : 2 * ((x2 + x3 * 256) / 2) % 256 ≡ x2 = omega (arith, even, o2, o3) in
      let b : 2 * ((x2 + x3 * 256) / 2) / 256 ≡ x3 = omega (arith, even, o2, o3) in
      let c : 2 * ((x4 + x5 * 256) / 2) % 256 ≡ x4 = omega (arith, low, o4, o5) in
      let d : 2 * ((x4 + x5 * 256) / 2) / 256 ≡ x5 = omega (arith, low, o4, o5) in
      let asdu : length (drop 6 xs) ≤ 249 = omega (arith, left, limits.1) in
      record {
        fits = (omega (arith, o2, o3), omega (arith, o4, o5), asdu, IsOctets-drop xs 6 u.octets_are);
        spelled = six_cells xs long ∙ same_cells first (sym left) (sym a) (sym b) (sym c) (sym d) refl;
      }

  module _ (odd : (get_or xs 2 0 % 2 == 0) ≡ false) where
    rest_of : (get_or xs 1 0 == 4) && ((get_or xs 2 0 == 1) || is_control (get_or xs 2 0)) ≡ true
    rest_of = or_right (get_or xs 2 0 % 2 == 0) ((get_or xs 1 0 == 4) && ((get_or xs 2 0 == 1) || is_control (get_or xs 2 0))) odd (right 2 (omega arith))

    four : get_or xs 1 0 ≡ 4
    four = is_equal (get_or xs 1 0) 4 (and_parts (get_or xs 1 0 == 4) ((get_or xs 2 0 == 1) || is_control (get_or xs 2 0)) rest_of).0

    none : drop 6 xs ≡ []
    none = nothing (drop 6 xs) (omega (arith, left, four))

    second : get_or xs 3 0 ≡ 0
    second = is_equal (get_or xs 3 0) 0 (or_right (get_or xs 2 0 % 2 == 0) (get_or xs 3 0 == 0) odd (right 3 (omega arith)))

    of_ack : (get_or xs 2 0 == 1) ≡ true → SpellsApdu (Ack (u16_le_at xs 4 / 2)) xs
    of_ack e =
        let x4 = get_or xs 4 0 in
        let x5 = get_or xs 5 0 in
        let third : is_third (get_or xs 2 0) x4 ≡ true = right 4 (omega arith) in
        let low : x4 % 2 ≡ 0 = format_even x4 (rw (odd, e) at third) in
        let o4 = u.octets_are 4 in
        let o5 = u.octets_are 5 in
        let c : 2 * ((x4 + x5 * 256) / 2) % 256 ≡ x4 = omega (arith, low, o4, o5) in
        let d : 2 * ((x4 + x5 * 256) / 2) / 256 ≡ x5 = omega (arith, low, o4, o5) in
        record {
          fits = omega (arith, o4, o5);
          spelled = six_cells xs long ∙ same_cells first four (is_equal (get_or xs 2 0) 1 e) second (sym c) (sym d) none;
        }

    of_control : (get_or xs 2 0 == 1) ≡ false → SpellsApdu (Control (get_or xs 2 0)) xs
    of_control n =
        let x2 = get_or xs 2 0 in
        let either = (and_parts (get_or xs 1 0 == 4) ((x2 == 1) || is_control x2) rest_of).1 in
        let third : is_third x2 (get_or xs 4 0) ≡ true = right 4 (omega arith) in
        let fourth : is_fourth x2 (get_or xs 5 0) ≡ true = right 5 (omega arith) in
        record {
          fits = or_right (x2 == 1) (is_control x2) n either;
          spelled = six_cells xs long ∙ same_cells first four refl second (is_equal (get_or xs 4 0) 0 (rw (odd, n) at third)) (is_equal (get_or xs 5 0) 0 (rw (odd, n) at fourth)) none;
        }

  pub of_fields : SpellsApdu (fields_of xs) xs
  of_fields =
      elim (cases_Bool (get_or xs 2 0 % 2 == 0)) [
        | inl e ↦ rw e (of_info e)
        | inr odd ↦ elim (cases_Bool (get_or xs 2 0 == 1)) [
          | inl one ↦ rw (odd, one) (of_ack odd one)
          | inr n ↦ rw (odd, n) (of_control odd n)
        ]
      ]

pub to_spelled : (a : ApduValue) (xs : List ℕ) → SpellsBy follows size_of fields_of a xs → SpellsApdu a xs
to_spelled a xs s = subst (λ b. SpellsApdu b xs) (sym s.fields) (of_fields xs s.unit)

-- what is spelled is right at each place
octets_six : (a b c d e f : ℕ) (ys : List ℕ) → a < 256 → b < 256 → c < 256 → d < 256 → e < 256 → f < 256 → IsOctets ys →
    IsOctets (a ∷ b ∷ c ∷ d ∷ e ∷ f ∷ ys)
octets_six a b c d e f ys p q r s t u o zero = p
octets_six a b c d e f ys p q r s t u o (suc zero) = q
octets_six a b c d e f ys p q r s t u o (suc (suc zero)) = r
octets_six a b c d e f ys p q r s t u o (suc (suc (suc zero))) = s
octets_six a b c d e f ys p q r s t u o (suc (suc (suc (suc zero)))) = t
octets_six a b c d e f ys p q r s t u o (suc (suc (suc (suc (suc zero))))) = u
octets_six a b c d e f ys p q r s t u o (suc (suc (suc (suc (suc (suc i)))))) = o i

-- six octets that are right, and others after them
right_six : (xs : List ℕ) → length xs ≡ size_of xs → is_right xs 0 (get_or xs 0 0) ≡ true → is_right xs 1 (get_or xs 1 0) ≡ true →
    is_right xs 2 (get_or xs 2 0) ≡ true →
    is_right xs 3 (get_or xs 3 0) ≡ true → is_right xs 4 (get_or xs 4 0) ≡ true → is_right xs 5 (get_or xs 5 0) ≡ true →
    EachFollows follows xs (length xs)
right_six xs w a b c d e f p h =
    follows_front xs p (get_or xs p 0) (omega (arith, h))
    ∙ six (λ k. is_right xs k (get_or xs k 0) ≡ true) a b c d e f (λ k l. past xs k (get_or xs k 0) l) p

even_twice : (n : ℕ) → (2 * n % 256 % 2 == 0) ≡ true
even_twice n = (let e : 2 * n % 256 % 2 ≡ 0 = omega arith in rw e refl)

half : (n : ℕ) → (2 * n % 256 + 2 * n / 256 * 256) / 2 ≡ n
half n = omega arith

control_small : (code : ℕ) → is_control code ≡ true → code < 256
control_small code h = grind (arith, nat_tests)

control_odd : (code : ℕ) → is_control code ≡ true → (code % 2 == 0) ≡ false
control_odd code h = grind (arith, nat_tests)

control_more : (code : ℕ) → is_control code ≡ true → (code == 1) ≡ false
control_more code h = grind (arith, nat_tests)

size_of_least : (xs : List ℕ) → length xs ≡ 6 → get_or xs 1 0 ≡ 4 → length xs ≡ size_of xs
size_of_least xs l e = (let s = size_long xs (omega (arith, l)) in omega (arith, l, e, s))

pub from_spelling : (a : ApduValue) → Fits a → SpellsBy follows size_of fields_of a (spelling a)
from_spelling (Info send receive asdu) (s, r, l, o) =
    let xs = spelling (Info send receive asdu) in
    let es = even_twice send in
    let er = even_twice receive in
    let hs = half send in
    let hr = half receive in
    let w : length xs ≡ size_of xs = (let z = size_long xs (omega arith) in omega (arith, z, l)) in
    record {
      unit = record {
        octets_are = octets_six 0x68 (length asdu + 4) (2 * send % 256) (2 * send / 256) (2 * receive % 256) (2 * receive / 256) asdu (omega arith) (omega (arith, l)) (omega arith) (omega (arith, s)) (omega arith) (omega (arith, r)) o;
        whole = w;
        right = right_six xs w refl (between_is (length asdu) l) (rw es refl) (rw es refl) (rw (es, er) refl) (rw es refl);
      };
      fields = rw (es, hs, hr) refl;
    }
from_spelling (Ack receive) r =
    let xs = spelling (Ack receive) in
    let er = even_twice receive in
    let hr = half receive in
    let w : length xs ≡ size_of xs = size_of_least xs refl refl in
    record {
      unit = record {
        octets_are = octets_six 0x68 4 1 0 (2 * receive % 256) (2 * receive / 256) [] (omega arith) (omega arith) (omega arith) (omega arith) (omega arith) (omega (arith, r)) (λ i. omega arith);
        whole = w;
        right = right_six xs w refl refl refl refl (rw er refl) refl;
      };
      fields = rw hr refl;
    }
from_spelling (Control code) c =
    let xs = spelling (Control code) in
    let odd = control_odd code c in
    let more = control_more code c in
    let w : length xs ≡ size_of xs = size_of_least xs refl refl in
    record {
      unit = record {
        octets_are = octets_six 0x68 4 code 0 0 0 [] (omega arith) (omega arith) (control_small code c) (omega arith) (omega arith) (omega arith) (λ i. omega arith);
        whole = w;
        right = right_six xs w refl refl (rw (odd, more) c) (rw odd refl) (rw (odd, more) refl) (rw (odd, more) refl);
      };
      fields = rw (odd, more) refl;
    }

pub from_spelled : (a : ApduValue) (xs : List ℕ) → SpellsApdu a xs → SpellsBy follows size_of fields_of a xs
from_spelled a xs s = subst (SpellsBy follows size_of fields_of a) (sym s.spelled) (from_spelling a s.fits)
