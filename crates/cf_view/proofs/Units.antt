-- Laws of the units of a whole stream, for every grammar.
use Rattle.std.proofs.Common.{◌≡◌, ℕ, zero, suc, ◌<◌, inl, inr, List, [], ◌∷◌, ◌++◌, length, drop, refl, sym, ◌∙◌, subst, arith}
use Rattle.cf_view.specs.Framing.{Begins, IsPartial, BreaksAt, HasFront, IsPrefixFree}
use Rattle.cf_view.specs.Units.{BeginsWithUnits, IsUnitsThenRest, IsUnitsThenBreak, HasUnits}
use Rattle.cf_view.specs.Octets.{IsOctets}
use Rattle.cf_view.proofs.OctetLists.{IsOctets-drop}
use Rattle.std.proofs.lemmas.List.{length-drop}
use Rattle.cf_view.proofs.Framing.{one_unit, unit_not_partial, unit_not_broken, partial_not_broken, one_break}
use Rattle.std.proofs.lemmas.Grind.{common_steps}

module _ {U : Type 0} (Spells : U → List ℕ → Type 0) where
  -- units and then a unit of the rest are the units one further
  pub begins_with_more : (us : List U) (u : U) (stream rest : List ℕ) (n : ℕ) → BeginsWithUnits Spells us stream rest → Begins Spells rest u n →
      BeginsWithUnits Spells (us ++ u ∷ []) stream (drop n rest)
  begins_with_more [] u stream rest n starts begins = grind (arith, common_steps)
  begins_with_more (v ∷ vs) u stream rest n starts begins =
      (starts.0, starts.1, begins_with_more vs u (drop starts.0 stream) rest n starts.2 begins)

module _ {U : Type 0} (Spells : U → List ℕ → Type 0) (free : IsPrefixFree Spells) where
  -- two lists of units of one stream, with no unit after either, are one list
  same_units : (us vs : List U) (stream r t : List ℕ) → BeginsWithUnits Spells us stream r → BeginsWithUnits Spells vs stream t →
      ((u : U) (n : ℕ) → Begins Spells r u n → ⊥) → ((u : U) (n : ℕ) → Begins Spells t u n → ⊥) → (us ≡ vs) × (r ≡ t)
  same_units [] [] stream r t a b no_more none = (refl, sym a ∙ b)
  same_units [] (v ∷ vs) stream r t a b no_more none = grind (arith, common_steps)
  same_units (u ∷ us) [] stream r t a b no_more none = grind (arith, common_steps)
  same_units (u ∷ us) (v ∷ vs) stream r t a b no_more none =
      let here = one_unit Spells free stream u v a.0 b.0 a.1 b.1 in
      let P : ℕ → Type 0 = λ n. BeginsWithUnits Spells vs (drop n stream) t in
      let rest = same_units us vs (drop a.0 stream) r t a.2 (subst P (sym here.1) b.2) no_more none in
      (cc (here.0, rest.0), rest.1)

  -- a stream is cut in one way
  pub one_units_then_rest : (us vs : List U) (stream r t : List ℕ) → IsUnitsThenRest Spells us stream r → IsUnitsThenRest Spells vs stream t → (us ≡ vs) × (r ≡ t)
  one_units_then_rest us vs stream r t a b =
      same_units us vs stream r t a.starts b.starts
      (λ u n begins. unit_not_partial Spells free r u n begins a.partial)
      (λ u n begins. unit_not_partial Spells free t u n begins b.partial)

  -- a stream that is units and a proper prefix of one is broken nowhere
  pub rest_not_break : (us vs : List U) (stream r : List ℕ) (place : ℕ) → IsUnitsThenRest Spells us stream r → IsUnitsThenBreak Spells vs stream place → ⊥
  rest_not_break us vs stream r place a b =
      let same = same_units us vs stream r b.rest a.starts b.starts
      (λ u n begins. unit_not_partial Spells free r u n begins a.partial)
      (λ u n begins. unit_not_broken Spells free b.rest u n place begins b.breaks) in
      partial_not_broken Spells free b.rest place (subst (IsPartial Spells) same.1 a.partial) b.breaks

  -- a stream is broken in one place
  pub one_units_then_break : (us vs : List U) (stream : List ℕ) (i j : ℕ) → IsUnitsThenBreak Spells us stream i → IsUnitsThenBreak Spells vs stream j → (us ≡ vs) × (i ≡ j)
  one_units_then_break us vs stream i j a b =
      let same = same_units us vs stream a.rest b.rest a.starts b.starts
      (λ u n begins. unit_not_broken Spells free a.rest u n i begins a.breaks)
      (λ u n begins. unit_not_broken Spells free b.rest u n j begins b.breaks) in
      let P : List ℕ → Type 0 = λ xs. BreaksAt Spells xs i in
      (same.0, one_break Spells free b.rest i j (subst P same.1 a.breaks) b.breaks)

module _ {U : Type 0} (Spells : U → List ℕ → Type 0) where
  -- one more unit in front
  one_before : (u : U) (n : ℕ) (stream : List ℕ) → Begins Spells stream u n → HasUnits Spells (drop n stream) → HasUnits Spells stream
  one_before u n stream b h =
      elim h.1 [
        | inl c ↦ (let is = c.1 in (u ∷ h.0, inl (c.0, record { starts = (n, b, is.starts); partial = is.partial })))
        | inr w ↦ (let is = w.1 in (u ∷ h.0, inr (w.0, record { rest = is.rest; starts = (n, b, is.starts); breaks = is.breaks })))
      ]

  -- where each list of octets has a front, each has units
  units_within : ((xs : List ℕ) → IsOctets xs → HasFront Spells xs) → (fuel : ℕ) (stream : List ℕ) → length stream < fuel → IsOctets stream → HasUnits Spells stream
  units_within front zero stream l o = absurd (omega (arith, l))
  units_within front (suc fuel) stream l o =
      elim (front stream o) [
        | inl v ↦ (let b = v.2 in let some = v.3 in
            one_before v.0 v.1 stream b (units_within front fuel (drop v.1 stream) (omega (arith, length-drop v.1 stream, b.inside, some, l)) (IsOctets-drop stream v.1 o)))
        | inr (inl p) ↦ ([], inl (stream, record { starts = refl; partial = p }))
        | inr (inr b) ↦ ([], inr (b.0, record { rest = stream; starts = refl; breaks = b.1 }))
      ]

  pub units_exist : ((xs : List ℕ) → IsOctets xs → HasFront Spells xs) → (stream : List ℕ) → IsOctets stream → HasUnits Spells stream
  units_exist front stream o = units_within front (suc (length stream)) stream (omega arith) o
