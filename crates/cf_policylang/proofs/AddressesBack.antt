-- What was written of an address or of a range of addresses is read as that.
use Rattle.std.proofs.Common.{◌≡◌, ◌≢◌, ◌∙◌, ℕ, suc, ◌/◌, ◌%◌, ◌<◌, ◌≤◌, ◌^◌, ℤ, pos, negsuc, nat_abs, ◌≤ℤ◌, int_le, int_eq, ◌⊎◌, inl, inr, true, false, if◌then◌else◌, List, [], ◌∷◌, ◌++◌, length, Some, None, Ok, unwrap_or, option_map, ap, sym, refl, arith, w64, FitsSigned, nat_eq, codes, append_assoc, append-nil, subst}
use Rattle.std.specs.Fmt.{decimal}
use Rattle.std.specs.List.{starts_with}
use Rattle.std.proofs.lemmas.Bool.{and_right}
use Rattle.std.proofs.lemmas.Bool.Decides.{nat_tests}
use Rattle.std.proofs.lemmas.Fmt.{decimal_is_IsNumeral, decimal_nonempty}
use Rattle.std.proofs.lemmas.Int.{ints}
use Rattle.cf_view.specs.Text.{dotted}
use Rattle.cf_policy.specs.declared.policy.Span.{Span}
use Rattle.cf_policy.specs.Within.{IsSpanWithin, highest_address}
use Rattle.cf_policylang.specs.declared.refusal.Key.{Key}
use Rattle.cf_policylang.specs.declared.refusal.Place.{Place}
use Rattle.cf_policylang.specs.Lists.{address_span}
use Rattle.cf_policylang.specs.Numbers.{address, ends, joined, octet, split_at_mark}
use Rattle.cf_policylang.specs.Spelling.{address_text}
use Rattle.cf_policylang.specs.Tested.{Tested}
use Rattle.cf_policylang.proofs.ReadBack.{IsPlain, finds_mark, in_range_read, not_here, plain_digits}

-- ---- one address

octet_read : (n : ℕ) → n < 256 → octet (decimal n) ≡ Some n
octet_read n h =
    let f : FitsSigned w64 (pos n) = record { sfits = omega arith } in
    ap (option_map nat_abs) (in_range_read (pos 0) (pos 255) (pos n) f (grind (arith, ints)) (grind (arith, ints)))

plain : (n : ℕ) → n < 256 → IsPlain (decimal n)
plain n h = plain_digits (decimal n) (decimal_is_IsNumeral n (omega arith)).0.1

-- four numbers with points between them
abbrev four : ℕ → ℕ → ℕ → ℕ → List ℕ
four a b c d = decimal a ++ (46 ∷ (decimal b ++ (46 ∷ (decimal c ++ (46 ∷ decimal d)))))

dotted_four : (n : ℕ) → dotted n ≡ four (n / 16777216) (n / 65536 % 256) (n / 256 % 256) (n % 256)
dotted_four n = simp append_assoc

cut : (n : ℕ) (rest : List ℕ) → n < 256 → split_at_mark (codes ".") (decimal n ++ (46 ∷ rest)) ≡ Some (decimal n, rest)
cut n rest h = finds_mark [] (decimal n) rest refl (plain n h)

four_read : (a b c d : ℕ) → a < 256 → b < 256 → c < 256 → d < 256 → address (four a b c d) ≡ Some (joined a b c d)
four_read a b c d ha hb hc hd =
    rw (
      cut a (decimal b ++ (46 ∷ (decimal c ++ (46 ∷ decimal d)))) ha,
      cut b (decimal c ++ (46 ∷ decimal d)) hb,
      cut c (decimal d) hc,
      octet_read a ha,
      octet_read b hb,
      octet_read c hc,
      octet_read d hd,
    ) refl

joined_whole : (n : ℕ) → joined (n / 16777216) (n / 65536 % 256) (n / 256 % 256) (n % 256) ≡ n
joined_whole n = omega arith

pub address_read : (n : ℕ) → n < 2 ^ 32 → address (dotted n) ≡ Some n
address_read n h =
    let front : n / 16777216 < 256 = omega arith in
    ap address (dotted_four n)
    ∙ (four_read (n / 16777216) (n / 65536 % 256) (n / 256 % 256) (n % 256) front (omega arith) (omega arith) (omega arith) ∙ ap Some (joined_whole n))

-- ---- no two points stand beside each other in it

abbrev StartsPlain : List ℕ → Type 0
StartsPlain [] = ⊥
StartsPlain (c ∷ cs) = c ≢ 46

abbrev IsLone : List ℕ → Type 0
IsLone [] = Unit {0}
IsLone (c ∷ cs) = ((c ≢ 46) ⊎ StartsPlain cs) × IsLone cs

starts_plain : (ds rest : List ℕ) → IsPlain ds → 0 < length ds → StartsPlain (ds ++ rest)
starts_plain [] rest h some = absurd (omega arith)
starts_plain (d ∷ ds) rest h some = h 0 d (omega arith)

starts_more : (cs rest : List ℕ) → StartsPlain cs → StartsPlain (cs ++ rest)
starts_more [] rest h = absurd h
starts_more (c ∷ cs) rest h = h

lone_behind : (ds rest : List ℕ) → IsPlain ds → IsLone rest → IsLone (ds ++ rest)
lone_behind [] rest h r = r
lone_behind (d ∷ ds) rest h r = (inl (h 0 d (omega arith)), lone_behind ds rest (λ i e lt. h (suc i) e (omega (arith, lt))) r)

lone_part : (n : ℕ) (rest : List ℕ) → n < 256 → IsLone rest → IsLone (46 ∷ (decimal n ++ rest))
lone_part n rest h r =
    (inr (starts_plain (decimal n) rest (plain n h) (decimal_nonempty n (omega arith))), lone_behind (decimal n) rest (plain n h) r)

lone_last : (n : ℕ) → n < 256 → IsLone (46 ∷ decimal n)
lone_last n h = subst (λ ds. IsLone (46 ∷ ds)) (append-nil (decimal n)) (lone_part n [] h tt)

lone_four : (a b c d : ℕ) → a < 256 → b < 256 → c < 256 → d < 256 → IsLone (four a b c d)
lone_four a b c d ha hb hc hd =
    lone_behind (decimal a) (46 ∷ (decimal b ++ (46 ∷ (decimal c ++ (46 ∷ decimal d))))) (plain a ha)
    (lone_part b (46 ∷ (decimal c ++ (46 ∷ decimal d))) hb (lone_part c (46 ∷ decimal d) hc (lone_last d hd)))

lone_address : (n : ℕ) → n < 2 ^ 32 → IsLone (dotted n)
lone_address n h =
    let front : n / 16777216 < 256 = omega arith in
    subst IsLone (sym (dotted_four n)) (lone_four (n / 16777216) (n / 65536 % 256) (n / 256 % 256) (n % 256) front (omega arith) (omega arith) (omega arith))

no_pair : (c : ℕ) (s : List ℕ) → (c ≢ 46) ⊎ StartsPlain s → starts_with nat_eq (c ∷ s) (codes "..") ≡ false
no_pair c s (inl ne) = not_here c s (46 ∷ []) ne
no_pair c [] (inr h) = absurd h
no_pair c (d ∷ ds) (inr ne) = let apart : nat_eq 46 d ≡ false = grind (arith, nat_tests) in rw apart (and_right (nat_eq 46 c) false refl)

no_pairs : (s : List ℕ) → IsLone s → split_at_mark (codes "..") s ≡ None
no_pairs [] h = refl
no_pairs (c ∷ cs) h = rw (no_pair c cs h.0, no_pairs cs h.1) refl

still_lone : (c : ℕ) (cs rest : List ℕ) → (c ≢ 46) ⊎ StartsPlain cs → (c ≢ 46) ⊎ StartsPlain (cs ++ rest)
still_lone c cs rest (inl ne) = inl ne
still_lone c cs rest (inr h) = inr (starts_more cs rest h)

first_pair : (front back : List ℕ) → IsLone front → split_at_mark (codes "..") (front ++ (codes ".." ++ back)) ≡ Some (front, back)
first_pair [] back h = refl
first_pair (c ∷ cs) back h =
    rw (no_pair c (cs ++ (codes ".." ++ back)) (still_lone c cs (codes ".." ++ back) h.0), first_pair cs back h.1) refl

-- ---- one address or two

ends_of_one : (text : List ℕ) → IsLone text → ends text ≡ (text, text)
ends_of_one text h = ap (λ o. unwrap_or o (text, text)) (no_pairs text h)

ends_of_two : (front back : List ℕ) → IsLone front → ends (front ++ (codes ".." ++ back)) ≡ (front, back)
ends_of_two front back h = ap (λ o. unwrap_or o (front ++ (codes ".." ++ back), front ++ (codes ".." ++ back))) (first_pair front back h)

one_read : (k : Key) (p : Place) (n : ℕ) → n < 2 ^ 32 → address_span k p (dotted n) ≡ Ok (record { low = pos n; high = pos n })
one_read k p n h = rw (ends_of_one (dotted n) (lone_address n h), address_read n h) (let same : int_le (pos n) (pos n) ≡ true = grind (arith, ints) in rw same refl)

two_read : (k : Key) (p : Place) (m n : ℕ) → m < 2 ^ 32 → n < 2 ^ 32 → m ≤ n
    → address_span k p (dotted m ++ (codes ".." ++ dotted n)) ≡ Ok (record { low = pos m; high = pos n })
two_read k p m n hm hn h =
    rw (ends_of_two (dotted m) (dotted n) (lone_address m hm), address_read m hm, address_read n hn)
    (let ordered : int_le (pos m) (pos n) ≡ true = grind (arith, ints) in rw ordered refl)

natural : (z : ℤ) → pos 0 ≤ℤ z → z ≡ pos (nat_abs z)
natural (pos n) h = refl
natural (negsuc n) h = absurd (omega (arith, ints))

below : (z : ℤ) → pos 0 ≤ℤ z → z ≤ℤ highest_address → nat_abs z < 2 ^ 32
below (pos n) h g = omega (arith, ints)
below (negsuc n) h g = absurd (omega (arith, ints))

ordered : (y z : ℤ) → pos 0 ≤ℤ y → y ≤ℤ z → nat_abs y ≤ nat_abs z
ordered (pos m) (pos n) h g = omega (arith, ints)
ordered (pos m) (negsuc n) h g = absurd (omega (arith, ints))
ordered (negsuc m) z h g = absurd (omega (arith, ints))

-- a range of addresses is read as it was written
pub addresses_read : (k : Key) (p : Place) (s : Span) → IsSpanWithin (pos 0) highest_address s → address_span k p (address_text s) ≡ Ok s
addresses_read k p s w =
    let last_above : pos 0 ≤ℤ s.high = (let a = w.above in let o = w.ordered in omega (arith, ints)) in
    let first_below : s.low ≤ℤ highest_address = (let b = w.below in let o = w.ordered in omega (arith, ints)) in
    let first : s.low ≡ pos (nat_abs s.low) = natural s.low w.above in
    let last : s.high ≡ pos (nat_abs s.high) = natural s.high last_above in
    elim (int_eq s.low s.high) as (λ b. int_eq s.low s.high ≡ b
    → address_span k p (if b then dotted (nat_abs s.low) else dotted (nat_abs s.low) ++ (codes ".." ++ dotted (nat_abs s.high))) ≡ Ok s) [
      | true ↦ λ e.
          let same : s.low ≡ s.high = grind (arith, ints) in
          one_read k p (nat_abs s.low) (below s.low w.above first_below) ∙ same_span s (pos (nat_abs s.low)) (pos (nat_abs s.low)) first (sym same ∙ first)
      | false ↦ λ e.
          two_read k p (nat_abs s.low) (nat_abs s.high) (below s.low w.above first_below) (below s.high last_above w.below) (ordered s.low s.high w.above w.ordered)
          ∙ same_span s (pos (nat_abs s.low)) (pos (nat_abs s.high)) first last
    ]
    refl
  where
    same_span : (s : Span) (y z : ℤ) → s.low ≡ y → s.high ≡ z → ◌≡◌ {A = Tested Span} (Ok (record { low = y; high = z })) (Ok s)
    same_span s y z a b = rw (← a, ← b) refl
