-- A session has 100 commands refused a second, and once what a turn can refuse.
use Rattle.std.proofs.Common.{Bool, List, ap, arith, false, inl, inr, refl, subst, suc, sym, true, zero, ℕ, ◌*◌, ◌++◌, ◌+◌, ◌-◌, ◌<◌, ◌∙◌, ◌∷◌, ◌≡◌, ◌≤◌, ◌⊎◌, []}
use Rattle.std.proofs.Common.{if◌then◌else◌}
use Rattle.std.specs.Prelude.{max, nat_le, ◌==◌}
use Rattle.std.specs.List.{AllByRecursion}
use Rattle.std.proofs.lemmas.Bool.Decides.{nat_tests}
use Rattle.std.proofs.lemmas.List.Sums.{sum_by-cons}
use Rattle.cf_serve.proofs.Owing.{debt_other, debt_own, measured_behind, measured_front}
use Rattle.cf_serve.specs.Debt.{AreMeasured, IsMeasured, debt_of, debt_with, must_rest, paid, refused_in, second_of}
use Rattle.cf_serve.specs.Laws.{FloodsAreBounded, LieIn, RefuseAtMost}
use Rattle.cf_serve.specs.Phase.{listenings}
use Rattle.cf_serve.specs.Rounds.{TurnOf}
use Rattle.cf_serve.specs.Session.{Listening}
use Rattle.cf_serve.specs.declared.debt.Debt.{Debt}

pub few_left : (n : ℕ) → nat_le 100 n ≡ false → n < 100
few_left n h = grind (arith, nat_tests)

-- what is to pay for less what each later second pays for, by how long either lasts
pays : (owed f g m n last : ℕ) → g + m ≤ f + n → m ≤ n → (n ≤ last) ⊎ (n ≤ m) → (owed - f * 100) + (last - n) * 100 ≤ (owed - g * 100) + (last - m) * 100
pays owed f g m n last h k (inl within) = omega (arith, h, k, within)
pays owed f g m n last h k (inr same) = omega (arith, h, k, same)

later : (at s first : ℕ) → first ≤ s → (s - at) + max at first ≤ (first - at) + max (max at s) first
later at s first h = omega (arith, h)

later_still : (at s first : ℕ) → max at first ≤ max (max at s) first
later_still at s first = omega arith

within : (at s first last : ℕ) (b : Bool) → nat_le at s ≡ b → first ≤ s → s ≤ last → (max (max at s) first ≤ last) ⊎ (max (max at s) first ≤ max at first)
within at s first last true is h k = let n : at ≤ s = grind (arith, nat_tests) in inl (omega (arith, n, h, k))
within at s first last false is h k = let n : s < at = grind (arith, nat_tests) in inr (omega (arith, n, h, k))

none_before : (at s first owed : ℕ) → first ≤ s → owed - (first - max at s) * 100 ≡ owed
none_before at s first owed h = omega (arith, h)

last_one : (r q p a b limit sum : ℕ) → r ≤ limit → p < 100 → q + b ≤ p + a → sum ≡ 0 → (r + sum) + q ≤ limit + 99 + a
last_one r q p a b limit sum few left h none = omega (arith, few, left, h, none)

one_more : (r q p a b limit sum : ℕ) → q + b ≤ p + a → sum + (p + r) ≤ limit + 99 + b → (r + sum) + q ≤ limit + 99 + a
one_more r q p a b limit sum h some = omega (arith, h, some)

module _ (first last limit : ℕ) where
  -- what is to pay for as the seconds begin, and what may be refused then
  abbrev pub Bound : (owed at sum : ℕ) → Type 0
  Bound owed at sum = (sum ≡ 0) ⊎ (sum + (owed - (first - at) * 100) ≤ limit + 99 + (last - max at first) * 100)

  module _ (owed at s r sum : ℕ) (early : first ≤ s) (late : s ≤ last) where
    paid_off : (owed - (first - at) * 100) + (last - max (max at s) first) * 100 ≤ (owed - (s - at) * 100) + (last - max at first) * 100
    paid_off = pays owed (first - at) (s - at) (max at first) (max (max at s) first) last (later at s first early) (later_still at s first) (within at s first last (nat_le at s) refl early late)

    pub grows : r ≤ limit → nat_le 100 (owed - (s - at) * 100) ≡ false →
        Bound (owed - (s - at) * 100 + r) (max at s) sum → Bound owed at (r + sum)
    grows few rests (inl none) =
        inr (last_one r (owed - (first - at) * 100) (owed - (s - at) * 100) ((last - max at first) * 100) ((last - max (max at s) first) * 100) limit sum few
        (few_left (owed - (s - at) * 100) rests) paid_off none)
    grows few rests (inr some) =
        inr (one_more r (owed - (first - at) * 100) (owed - (s - at) * 100) ((last - max at first) * 100) ((last - max (max at s) first) * 100) limit sum paid_off
        (subst (λ n. sum + n ≤ limit + 99 + (last - max (max at s) first) * 100) (none_before at s first (owed - (s - at) * 100 + r) early) some))

  pub whole : (owed at sum : ℕ) → Bound owed at sum → sum ≤ limit + 99 + (last - first) * 100
  whole owed at sum (inl none) = omega (arith, none)
  whole owed at sum (inr some) = omega (arith, some)

pub same_number : (a b : ℕ) → (a == b) ≡ true → a ≡ b
same_number a b h = grind (arith, nat_tests)

not_nothing : (r : ℕ) → (r == 0) ≡ false → r ≡ 0 → ⊥
not_nothing r h e = grind (arith, nat_tests)

module _ (first last limit : ℕ) where
  abbrev BoundOf : Debt → ℕ → Type 0
  BoundOf d sum = Bound first last limit d.owed d.at sum

  -- a turn of the session: it refused nothing, or it need not rest
  own_turn : (d : Debt) (moment r sum : ℕ) (nothing rest : Bool) → (r == 0) ≡ nothing → must_rest d moment ≡ rest → first ≤ second_of moment → second_of moment ≤ last → r ≤ limit →
      (must_rest d moment ≡ true → r ≡ 0) → BoundOf (debt_with d moment r) sum → BoundOf d (r + sum)
  own_turn d moment r sum true rest is rests early late few idle bound =
      let zero : r ≡ 0 = same_number r 0 is in
      let all : sum ≡ r + sum = omega (arith, zero) in
      subst (BoundOf d) all (subst (λ (b : Bool). BoundOf (if b then d else record { owed = paid d moment + r; at = max d.at (second_of moment) }) sum) is bound)
  own_turn d moment r sum false true is rests early late few idle bound = absurd (not_nothing r is (idle rests))
  own_turn d moment r sum false false is rests early late few idle bound =
      grows first last limit d.owed d.at (second_of moment) r sum early late few rests
      (subst (λ (b : Bool). BoundOf (if b then d else record { owed = paid d moment + r; at = max d.at (second_of moment) }) sum) is bound)

  module _ (places : List Listening) (session : ℕ) where
    abbrev Within : TurnOf → Type 0
    Within t = (first ≤ second_of t.moment) × (second_of t.moment ≤ last)

    one_turn : (past : List TurnOf) (t : TurnOf) (sum : ℕ) (own : Bool) → (t.seat.session == session) ≡ own → IsMeasured places past t → Within t → t.refused ≤ limit →
        BoundOf (debt_of session (past ++ t ∷ [])) sum → BoundOf (debt_of session past) ((if own then t.refused else 0) + sum)
    one_turn past t sum true is m inside few bound =
        own_turn (debt_of session past) t.moment t.refused sum (t.refused == 0) (must_rest (debt_of session past) t.moment) refl refl inside.0 inside.1 few
        (λ rests. m.idle (m.rests (ap (λ n. must_rest (debt_of n past) t.moment) (same_number t.seat.session session is) ∙ rests)))
        (subst (λ (d : Debt). BoundOf d sum) (debt_own session past t is) bound)
    one_turn past t sum false is m inside few bound =
        let all : sum ≡ 0 + sum = omega arith in
        subst (BoundOf (debt_of session past)) all (subst (λ (d : Debt). BoundOf d sum) (debt_other session past t is) bound)

    flood : (past ts : List TurnOf) → AreMeasured places past ts → AllByRecursion Within ts → RefuseAtMost limit ts → BoundOf (debt_of session past) (refused_in session ts)
    flood past [] m inside few = inl refl
    flood past (t ∷ ts) (m, ms) (inside, insides) (few, fews) =
        subst (BoundOf (debt_of session past)) (sym (sum_by-cons (λ (u : TurnOf). if u.seat.session == session then u.refused else 0) t ts))
        (one_turn past t (refused_in session ts) (t.seat.session == session) refl m inside few (flood (past ++ t ∷ []) ts ms insides fews))

until : (first k : ℕ) (ts : List TurnOf) → LieIn first (suc k) ts → AllByRecursion (λ (t : TurnOf). (first ≤ second_of t.moment) × (second_of t.moment ≤ first + k)) ts
until first k [] h = tt
until first k (t ∷ ts) (h, hs) =
    ((h.0, let n : second_of t.moment < first + suc k = h.1 in omega (arith, n)), until first k ts hs)

in_seconds : (first k limit sum : ℕ) → sum ≤ limit + 99 + ((first + k) - first) * 100 → sum ≤ suc k * 100 + limit
in_seconds first k limit sum h = omega (arith, h)

by_count : (places : List Listening) (past ts : List TurnOf) (session first count limit : ℕ) → AreMeasured places past ts → LieIn first count ts → RefuseAtMost limit ts → refused_in session ts ≤ count * 100 + limit
by_count places past [] session first count limit m inside few = omega arith
by_count places past (t ∷ ts) session first zero limit m inside few =
    absurd (let a : first ≤ second_of t.moment = inside.0.0 in let b : second_of t.moment < first + 0 = inside.0.1 in omega (arith, a, b))
by_count places past (t ∷ ts) session first (suc k) limit m inside few =
    in_seconds first k limit (refused_in session (t ∷ ts))
    (whole first (first + k) limit (debt_of session past).owed (debt_of session past).at (refused_in session (t ∷ ts))
    (flood first (first + k) limit places session past (t ∷ ts) m (until first k (t ∷ ts) inside) few))

pub bounded : FloodsAreBounded
bounded places most entries lines served before turns behind session first count limit is inside few =
    let all : AreMeasured (listenings places) [] (before ++ (turns ++ behind)) = subst (AreMeasured (listenings places) []) is served.measured in
    by_count (listenings places) before turns session first count limit
    (measured_front (listenings places) before turns behind (measured_behind (listenings places) [] before (turns ++ behind) all)) inside few
