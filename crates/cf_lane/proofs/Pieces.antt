-- The law of pieces, for every grammar: what is taken apart piece by piece is taken apart as a whole.
use Rattle.cf_lane.specs.Unit.{AreUnits, Left, SpellsUnit, Tail, UnitValue, Wrong}
use Rattle.cf_policy.specs.declared.Protocol.{Protocol}
use Rattle.cf_view.proofs.Framing.{unit_not_partial}
use Rattle.cf_view.specs.Framing.{Begins, BreaksAt, IsFront, IsPartial, IsPrefixFree}
use Rattle.cf_view.specs.Units.{BeginsWithUnits}
use Rattle.cf_view.specs.declared.Break.{Break}
use Rattle.std.proofs.Common.{List, [], ap, arith, drop, inl, inr, length, refl, subst, sym, take, take-append-drop, ℕ, ◌++◌, ◌+◌, ◌∷◌, ◌≡◌, ◌≤◌}
use Rattle.std.proofs.lemmas.Bool.{cases_lt}
use Rattle.std.proofs.lemmas.List.{drop-append-le, length-append, length-drop, take-append-le}

module _ {U : Type 0} (Spells : U → List ℕ → Type 0) where
  -- what begins the bytes begins them with more after them
  begins_longer : (xs ys : List ℕ) (u : U) (n : ℕ) → Begins Spells xs u n → Begins Spells (xs ++ ys) u n
  begins_longer xs ys u n b = record {
    inside = omega (arith, b.inside, length-append xs ys);
    spells = subst (Spells u) (sym (take-append-le n xs ys b.inside)) b.spells;
  }

  pub starts_longer : (us : List U) (xs rest ys : List ℕ) → BeginsWithUnits Spells us xs rest → BeginsWithUnits Spells us (xs ++ ys) (rest ++ ys)
  starts_longer [] xs rest ys s = ap (λ zs. zs ++ ys) s
  starts_longer (u ∷ us) xs rest ys s =
      let P : List ℕ → Type 0 = λ zs. BeginsWithUnits Spells us zs (rest ++ ys) in
      (s.0, begins_longer xs ys u s.0 s.1, subst P (sym (drop-append-le s.0 xs ys s.1.inside)) (starts_longer us (drop s.0 xs) rest ys s.2))

  -- units, and then the units of what follows them
  pub starts_join : (us vs : List U) (xs rest more : List ℕ) → BeginsWithUnits Spells us xs rest → BeginsWithUnits Spells vs rest more → BeginsWithUnits Spells (us ++ vs) xs more
  starts_join [] vs xs rest more s t =
      let P : List ℕ → Type 0 = λ zs. BeginsWithUnits Spells vs zs more in subst P (sym s) t
  starts_join (u ∷ us) vs xs rest more s t = (s.0, s.1, starts_join us vs (drop s.0 xs) rest more s.2 t)

  pub breaks_longer : (xs ys : List ℕ) (i : ℕ) → BreaksAt Spells xs i → BreaksAt Spells (xs ++ ys) i
  breaks_longer xs ys i b = record {
    inside = omega (arith, b.inside, length-append xs ys);
    before = subst (IsPartial Spells) (sym (take-append-le i xs ys (omega (arith, b.inside)))) b.before;
    here = λ f. b.here (subst (IsFront Spells) (take-append-le (i + 1) xs ys (omega (arith, b.inside))) f);
  }

-- THE LAW OF PIECES: units of a part, and then those of what it left with the next part, are the units of both
pub units_pieces : (p : Protocol) (us vs : List UnitValue) (xs rest ys : List ℕ) (tail : Tail) → AreUnits p xs us (Left rest) → AreUnits p (rest ++ ys) vs tail →
    AreUnits p (xs ++ ys) (us ++ vs) tail
units_pieces p us vs xs rest ys (Left left) a b = record {
  starts = starts_join (SpellsUnit p) us vs (xs ++ ys) (rest ++ ys) left (starts_longer (SpellsUnit p) us xs rest ys a.starts) b.starts;
  partial = b.partial;
}
units_pieces p us vs xs rest ys (Wrong reason) a b = (
  b.0,
  record {
    rest = b.1.rest;
    starts = starts_join (SpellsUnit p) us vs (xs ++ ys) (rest ++ ys) b.1.rest (starts_longer (SpellsUnit p) us xs rest ys a.starts) b.1.starts;
    breaks = b.1.breaks;
  },
  b.2,
)

-- what is broken stays so
pub units_stay : (p : Protocol) (us : List UnitValue) (xs ys : List ℕ) (reason : Break) → AreUnits p xs us (Wrong reason) → AreUnits p (xs ++ ys) us (Wrong reason)
units_stay p us xs ys reason a = (
  a.0,
  record {
    rest = a.1.rest ++ ys;
    starts = starts_longer (SpellsUnit p) us xs a.1.rest ys a.1.starts;
    breaks = breaks_longer (SpellsUnit p) a.1.rest ys a.0 a.1.breaks;
  },
  a.2,
)

module _ {U : Type 0} (Spells : U → List ℕ → Type 0) where
  starts_shorter : (us : List U) (xs left : List ℕ) → BeginsWithUnits Spells us xs left → length left ≤ length xs
  starts_shorter [] xs left s = omega (arith, ap length s)
  starts_shorter (u ∷ us) xs left s = omega (arith, starts_shorter us (drop s.0 xs) left s.2, length-drop s.0 xs)

  nothing_before : (xs ys : List ℕ) → xs ++ ys ≡ ys → xs ≡ []
  nothing_before [] ys e = refl
  nothing_before (x ∷ xs) ys e = absurd (omega (arith, ap length e, length-append (x ∷ xs) ys))

  -- units up to a place are the units of the bytes up to there
  pub starts_within : (us : List U) (xs ys : List ℕ) → BeginsWithUnits Spells us (xs ++ ys) ys → BeginsWithUnits Spells us xs []
  starts_within [] xs ys s = nothing_before xs ys s
  starts_within (u ∷ us) xs ys s =
      let below : s.0 ≤ length xs = omega (arith, starts_shorter us (drop s.0 (xs ++ ys)) ys s.2, length-drop s.0 (xs ++ ys), length-append xs ys, s.1.inside) in
      let P : List ℕ → Type 0 = λ zs. BeginsWithUnits Spells us zs ys in (
        s.0,
        record { inside = below; spells = subst (Spells u) (take-append-le s.0 xs ys below) s.1.spells },
        starts_within us (drop s.0 xs) ys (subst P (drop-append-le s.0 xs ys below) s.2),
      )

  pub first_unit : (us : List U) (u : U) (xs left : List ℕ) → BeginsWithUnits Spells (us ++ u ∷ []) xs left → (v : U) × (k : ℕ) × Begins Spells xs v k
  first_unit [] u xs left s = (u, s.0, s.1)
  first_unit (v ∷ us) u xs left s = (v, s.0, s.1)

  -- units that begin after a proper prefix of one reach past it
  pub covers_rest : IsPrefixFree Spells → (us : List U) (u : U) (rest piece : List ℕ) (n : ℕ) → IsPartial Spells rest →
      BeginsWithUnits Spells (us ++ u ∷ []) (rest ++ piece) (drop n (rest ++ piece)) → length rest ≤ n
  covers_rest free us u rest piece n partial s =
      elim (cases_lt n (length rest)) [
        | inr past ↦ omega (arith, past)
        | inl below ↦
            (let all = rest ++ piece in
            let front = starts_within (us ++ u ∷ []) (take n all) (drop n all) (subst (λ zs. BeginsWithUnits Spells (us ++ u ∷ []) zs (drop n all)) (sym (take-append-drop n all)) s) in
            let is = take-append-le n rest piece (omega (arith, below)) in
            let first = first_unit us u (take n rest) [] (subst (λ zs. BeginsWithUnits Spells (us ++ u ∷ []) zs []) is front) in
            let longer = begins_longer Spells (take n rest) (drop n rest) first.0 first.1 first.2 in
            absurd (unit_not_partial Spells free rest first.0 first.1 (subst (λ zs. Begins Spells zs first.0 first.1) (take-append-drop n rest) longer) partial))
      ]
