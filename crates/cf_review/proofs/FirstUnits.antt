-- Units that begin octets, by the grammar of one protocol and by that of all.
use Rattle.std.proofs.Common.{◌≡◌, ◌+◌, ◌<◌, ◌≤◌, ◌∙◌, ℕ, List, [], ◌∷◌, ◌++◌, length, drop, take, ap, sym, subst, inl, inr, arith, append_assoc, length-append}
use Rattle.std.proofs.lemmas.Bool.{cases_lt}
use Rattle.std.proofs.lemmas.List.{append-nil, drop-append-le, drop_all, length-drop, length-take-le, take-append-drop, take-append-le}
use Rattle.cf_lane.proofs.Units.{IsGrammarOf, begins_by, free_unit, nothing_unit, short_unit}
use Rattle.cf_lane.specs.Unit.{SpellsUnit, UnitValue}
use Rattle.cf_policy.specs.declared.Protocol.{Protocol}
use Rattle.cf_view.proofs.Framing.{unit_not_partial}
use Rattle.cf_view.specs.Framing.{Begins, IsPartial, framed_value}
use Rattle.cf_view.specs.declared.Framed.{Framed}
use Rattle.cf_view.specs.declared.Framed.TheVariants as framed
use Rattle.cf_view.specs.declared.Break.{Break}
use Rattle.cf_review.specs.FirstUnit.{HasNoUnit, IsReadFrom, UnitBegins}
use Rattle.cf_review.specs.Follow.{IsSearched}

module _ {U : Type 0} {Spells : U → List ℕ → Type 0} {p : Protocol} {unit : U → UnitValue} {break_at : ℕ → Break} (g : IsGrammarOf Spells p unit break_at) where
  pub one_begins : (xs : List ℕ) → ((u : U) × (n : ℕ) × Begins Spells xs u n) → UnitBegins p xs
  one_begins xs (u, n, b) = (unit u, n, begins_by g xs u n b)

  pub none_begins : (xs : List ℕ) → ((u : U) (n : ℕ) → Begins Spells xs u n → ⊥) → UnitBegins p xs → ⊥
  none_begins xs none (v, n, b) = let u = g.from v (take n xs) b.spells in none u.0 n (record { inside = b.inside; spells = u.2 })

-- a framer that told a unit told nothing else
module _ {X U : Type 0} (view : X → U) (u : U) (n : ℕ) where
  pub not_more : (r : Framed X) → framed_value view r ≡ framed.Unit u n → r ≡ framed.More → ⊥
  not_more (framed.Unit x used) told e = cc e
  not_more framed.More told e = cc told
  not_more (framed.Broken b) told e = cc e

  pub not_broken : (r : Framed X) (b : Break) → framed_value view r ≡ framed.Unit u n → r ≡ framed.Broken b → ⊥
  not_broken (framed.Unit x used) b told e = cc e
  not_broken framed.More b told e = cc e
  not_broken (framed.Broken c) b told e = cc told

-- no unit begins no octets
none_in_nothing : (p : Protocol) → UnitBegins p [] → ⊥
none_in_nothing p (u, n, b) = unit_not_partial (SpellsUnit p) (free_unit p) [] u n b (nothing_unit p)

-- where none begins at a place inside, none begins anywhere
pub no_unit : (p : Protocol) (bytes : List ℕ) → ((k : ℕ) → k < length bytes → UnitBegins p (drop k bytes) → ⊥) → HasNoUnit p bytes
no_unit p bytes none k is =
    elim (cases_lt k (length bytes)) [
      | inl inside ↦ none k inside is
      | inr past ↦ none_in_nothing p (subst (UnitBegins p) (drop_all k bytes past) is)
    ]

-- ---- a unit that begins octets of which enough are there

-- no unit has more than 300 octets
most_octets : (p : Protocol) (u : UnitValue) (xs : List ℕ) → SpellsUnit p u xs → length xs ≤ 300
most_octets p u [] s = omega arith
most_octets p u (x ∷ xs) s =
    let all = x ∷ xs in
    let n = length xs in
    let split : take n all ++ drop n all ≡ all = take-append-drop n all in
    let rest : length (drop n all) ≡ 1 = length-drop n all ∙ omega arith in
    let partial : IsPartial (SpellsUnit p) (take n all) = record { whole = u; more = drop n all; proper = omega (arith, rest); spells = subst (SpellsUnit p u) (sym split) s } in
    let few = short_unit p (take n all) partial in
    omega (arith, few, ap length split, length-append (take n all) (drop n all), rest)

-- what begins octets with others behind them begins the octets alone where there are enough
pub unit_within : (p : Protocol) (xs more : List ℕ) → 300 ≤ length xs → UnitBegins p (xs ++ more) → UnitBegins p xs
unit_within p xs more long (u, n, b) =
    let few = most_octets p u (take n (xs ++ more)) b.spells in
    let size : length (take n (xs ++ more)) ≡ n = length-take-le n (xs ++ more) b.inside in
    let inside : n ≤ length xs = omega (arith, few, size, long) in
    (u, n, record { inside = inside; spells = subst (SpellsUnit p u) (take-append-le n xs more inside) b.spells })

-- ---- a text that is searched for its first unit, place by place

pub searched_none : (p : Protocol) (bytes : List ℕ) → IsSearched p bytes 0
searched_none p bytes = record { none_before = λ k below. absurd (omega (arith, below)); inside = omega arith }

-- one place more, at which none begins
pub searched_more : (p : Protocol) (bytes : List ℕ) (at : ℕ) → 300 + at ≤ length bytes → IsSearched p bytes at → (UnitBegins p (drop at bytes) → ⊥) → IsSearched p bytes (at + 1)
searched_more p bytes at long was none = record {
  none_before = λ k below more is.
      elim (cases_lt k at) [
        | inl earlier ↦ was.none_before k earlier more is
        | inr here ↦
            (let same : k ≡ at = omega (arith, here, below) in
            let begins : UnitBegins p (drop at bytes ++ more) = subst (λ n. UnitBegins p (drop n bytes ++ more)) same is in
            none (unit_within p (drop at bytes) more (omega (arith, length-drop at bytes, long)) begins))
      ];
  inside = omega (arith, long);
}

-- where bytes come behind it
pub searched_longer : (p : Protocol) (bytes more : List ℕ) (at : ℕ) → IsSearched p bytes at → IsSearched p (bytes ++ more) at
searched_longer p bytes more at was = record {
  none_before = λ k below later is.
      was.none_before k below (more ++ later)
      (subst (UnitBegins p) (ap (λ xs. xs ++ later) (drop-append-le k bytes more (omega (arith, below, was.inside))) ∙ append_assoc (drop k bytes) more later) is);
  inside = omega (arith, was.inside, length-append bytes more);
}

-- the place at which the first unit stands is the one from which on it is read
pub read_from : (p : Protocol) (bytes : List ℕ) (at : ℕ) → IsSearched p bytes at → UnitBegins p (drop at bytes) → IsReadFrom p bytes at
read_from p bytes at was here = inl (record {
  here = here;
  none_before = λ k below is. was.none_before k below [] (subst (UnitBegins p) (sym (append-nil (drop k bytes))) is);
})
