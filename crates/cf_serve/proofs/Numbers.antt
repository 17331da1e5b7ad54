-- Sessions in the order of their numbers, and facts of each element of a list.
use Rattle.std.proofs.Common.{List, Option, arith, false, ℕ, ◌++◌, ◌+◌, ◌<◌, ◌≤◌, ◌∷◌, ◌≡◌, []}
use Rattle.std.specs.Prelude.{◌==◌}
use Rattle.std.specs.List.{AllByRecursion}
use Rattle.std.proofs.lemmas.Bool.Decides.{nat_tests}
use Rattle.cf_serve.specs.Phase.{LinkedValue, Phase}
use Rattle.cf_serve.specs.Table.{IsBetween}

module _ {X : Type 0} where
  pub all_join : (P : X → Type 0) (xs ys : List X) → AllByRecursion P xs → AllByRecursion P ys → AllByRecursion P (xs ++ ys)
  all_join P [] ys h k = k
  all_join P (x ∷ xs) ys (p, h) k = (p, all_join P xs ys h k)

  -- of one element, of the others, and with another in its place
  pub all_one : (P : X → Type 0) (xs : List X) (x : X) (ys : List X) → AllByRecursion P (xs ++ x ∷ ys) → P x
  all_one P [] x ys (p, h) = p
  all_one P (z ∷ xs) x ys (p, h) = all_one P xs x ys h

  pub all_others : (P : X → Type 0) (xs : List X) (x : X) (ys : List X) → AllByRecursion P (xs ++ x ∷ ys) → AllByRecursion P (xs ++ ys)
  all_others P [] x ys (p, h) = h
  all_others P (z ∷ xs) x ys (p, h) = (p, all_others P xs x ys h)

  pub all_with : (P : X → Type 0) (xs : List X) (x : X) (ys : List X) → P x → AllByRecursion P (xs ++ ys) → AllByRecursion P (xs ++ x ∷ ys)
  all_with P [] x ys p h = (p, h)
  all_with P (z ∷ xs) x ys p (q, h) = (q, all_with P xs x ys p h)

  pub all_map : (P Q : X → Type 0) (xs : List X) → ((x : X) → P x → Q x) → AllByRecursion P xs → AllByRecursion Q xs
  all_map P Q [] f h = tt
  all_map P Q (x ∷ xs) f (p, h) = (f x p, all_map P Q xs f h)

  pub all_zip : (P Q R : X → Type 0) (xs : List X) → ((x : X) → P x → Q x → R x) → AllByRecursion P xs → AllByRecursion Q xs → AllByRecursion R xs
  all_zip P Q R [] f h k = tt
  all_zip P Q R (x ∷ xs) f (p, h) (q, k) = (f x p q, all_zip P Q R xs f h k)

-- two numbers that differ
pub above : (a b : ℕ) → b < a → (a == b) ≡ false
above a b h = grind (arith, nat_tests)

pub below : (a b : ℕ) → a < b → (a == b) ≡ false
below a b h = grind (arith, nat_tests)

abbrev IsWithin : (low high : ℕ) → Phase → Type 0
IsWithin low high p = (low ≤ p.seat.session) × (p.seat.session < high)

pub bounds : (low high : ℕ) (ps : List Phase) → IsBetween low high ps → low ≤ high
bounds low high [] h = h
bounds low high (p ∷ ps) (l, h) = let b : p.seat.session + 1 ≤ high = bounds (p.seat.session + 1) high ps h in omega (arith, l, b)

pub lower : (low low' high : ℕ) (ps : List Phase) → low' ≤ low → IsBetween low high ps → IsBetween low' high ps
lower low low' high [] h b = omega (arith, h, b)
lower low low' high (p ∷ ps) h (l, b) = (omega (arith, h, l), b)

pub higher : (low high high' : ℕ) (ps : List Phase) → high ≤ high' → IsBetween low high ps → IsBetween low high' ps
higher low high high' [] h b = omega (arith, h, b)
higher low high high' (p ∷ ps) h (l, b) = (l, higher (p.seat.session + 1) high high' ps h b)

pub members : (low high : ℕ) (ps : List Phase) → IsBetween low high ps → AllByRecursion (IsWithin low high) ps
members low high [] b = tt
members low high (p ∷ ps) (l, b) =
    let top : p.seat.session + 1 ≤ high = bounds (p.seat.session + 1) high ps b in
    ((l, omega (arith, top)), all_map (IsWithin (p.seat.session + 1) high) (IsWithin low high) ps (λ q h. (omega (arith, l, h.0), h.1)) (members (p.seat.session + 1) high ps b))

-- a session among others: as another, or gone
pub with_it : (low high : ℕ) (before : List Phase) (p : Phase) (new : Option LinkedValue) (after : List Phase) → IsBetween low high (before ++ p ∷ after) →
    IsBetween low high (before ++ record { seat = p.seat; linked = new } ∷ after)
with_it low high [] p new after b = b
with_it low high (q ∷ before) p new after (l, b) = (l, with_it (q.seat.session + 1) high before p new after b)

pub without_it : (low high : ℕ) (before : List Phase) (p : Phase) (after : List Phase) → IsBetween low high (before ++ p ∷ after) → IsBetween low high (before ++ after)
without_it low high [] p after (l, b) = lower (p.seat.session + 1) low high after (omega (arith, l)) b
without_it low high (q ∷ before) p after (l, b) = (l, without_it (q.seat.session + 1) high before p after b)

pub number_within : (low high : ℕ) (before : List Phase) (p : Phase) (after : List Phase) → IsBetween low high (before ++ p ∷ after) → (low ≤ p.seat.session) × (p.seat.session < high)
number_within low high [] p after (l, b) = let top : p.seat.session + 1 ≤ high = bounds (p.seat.session + 1) high after b in (l, omega (arith, top))
number_within low high (q ∷ before) p after (l, b) = let h = number_within (q.seat.session + 1) high before p after b in (omega (arith, l, h.0), h.1)

-- every other session has another number
pub others_after : (high : ℕ) (p : Phase) (after : List Phase) → IsBetween (p.seat.session + 1) high after →
    AllByRecursion (λ (q : Phase). (p.seat.session == q.seat.session) ≡ false) after
others_after high p after b = all_map (IsWithin (p.seat.session + 1) high) (λ (q : Phase). (p.seat.session == q.seat.session) ≡ false) after
    (λ q h. below p.seat.session q.seat.session (omega (arith, h.0))) (members (p.seat.session + 1) high after b)

pub others : (low high : ℕ) (before : List Phase) (p : Phase) (after : List Phase) → IsBetween low high (before ++ p ∷ after) →
    AllByRecursion (λ (q : Phase). (p.seat.session == q.seat.session) ≡ false) (before ++ after)
others low high [] p after (l, b) = others_after high p after b
others low high (q ∷ before) p after (l, b) =
    (above p.seat.session q.seat.session (omega (arith, (number_within (q.seat.session + 1) high before p after b).0)), others (q.seat.session + 1) high before p after b)
