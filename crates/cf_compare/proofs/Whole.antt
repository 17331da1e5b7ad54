-- From the codes of two assets to the assets, and from the assets of two policies to the policies.
use Rattle.std.proofs.Common.{◌≡◌, ℕ, ◌<◌, ◌≤◌, get_or, Some, None, Result, Ok, Err, refl, sym, ap, subst, ◌∙◌, arith, inl}
use mathlib.Core.Logic.{⊎_elim}
use Rattle.std.specs.Prelude.{All}
use Rattle.std.proofs.lemmas.Int.{ints}
use Rattle.std.proofs.lemmas.Bool.{cases_lt, cases_Bool, false≢true}
use Rattle.std.proofs.lemmas.List.Elements.{All-weaker}
use Rattle.std.proofs.lemmas.Option.{get_or_from_slice_get, slice_get-get_or, slice_get_within}
use Rattle.cf_view.specs.declared.base.Act.{Act}
use Rattle.cf_compare.specs.Cells.{cells_of, most_cells}
use Rattle.cf_policy.specs.declared.policy.Asset.{Asset}
use Rattle.cf_policy.specs.declared.policy.Policy.{Policy}
use Rattle.cf_policy.specs.Verdict.{has_act}
use Rattle.cf_policy.specs.Within.{IsWithin}
use Rattle.cf_compare.specs.declared.answer.Compared.{Compared}
use Rattle.cf_compare.specs.declared.answer.Compared.TheVariants.{Included, Missing, Shown}
use Rattle.cf_compare.specs.declared.answer.CompareFault.{CompareFault}
use Rattle.cf_compare.specs.declared.answer.CompareFault.TheVariants as fault
use Rattle.cf_compare.specs.Inclusion.{AllowsAllOf, IsIncludedAsset, IsIncludedIn, IsFirstDifference}
use Rattle.cf_compare.specs.Outcome.{IsPartner, HasNoPartner, HasTooManyCells, HasDifference, Passes, StopsAt, Answers, HasNothing, IsIncludedUnlessMemory}
use Rattle.cf_compare.specs.Parts.{IsCodeSearched}
use Rattle.cf_compare.proofs.SameRules.{allows, allows_is}

module _ (ours other : Asset) where
  -- no code has a difference
  pub all_codes : ((k : ℕ) → k < 256 → IsCodeSearched ours other k None) → IsFirstDifference ours other None
  all_codes none client act range allowed =
      ⊎_elim
      (λ yes. (allows_is other client act).1 yes)
      (λ lacks. absurd (none act.code (let small = range.code in omega (arith, ints, small)) client act refl
      (record { in_range = range; allowed = allowed; refused = λ h. false≢true (sym lacks ∙ (allows_is other client act).0 h) })))
      (cases_Bool (allows (λ r. has_act r client act) other.rules))

  -- this code is the first that has one
  pub first_code : (code : ℕ) (p : ℕ × Act) → ((k : ℕ) → k < code → IsCodeSearched ours other k None) → IsCodeSearched ours other code (Some p) → IsFirstDifference ours other (Some p)
  first_code code p none found = record {
    differs = found.1;
    least = λ another later differs. ⊎_elim
        (λ early. absurd (none later.code early another later refl differs))
        (λ late. ⊎_elim
        (λ beyond. inl (let e = found.0 in omega (arith, e, beyond)))
        (λ here. found.2 another later (omega (arith, late, here)) differs)
        (cases_lt code later.code))
        (cases_lt later.code code);
  }

module _ (ours other : Policy) where
  passes_included : (asset : Asset) → Passes other asset → IsIncludedAsset other asset
  passes_included asset p = record { partner = p.partner; here = p.found.here; same = p.found.same; allows = p.allows }

  pub included : (r : Result Compared CompareFault) → Answers ours other r → r ≡ Ok Included → IsIncludedIn ours other
  included r h e = All-weaker (Passes other) (IsIncludedAsset other) passes_included ours.assets (subst (Answers ours other) e h)

  -- an asset has one partner
  one_partner : IsWithin other → (asset p q : Asset) → IsPartner other asset p → IsPartner other asset q → p ≡ q
  one_partner within asset p q a b =
      let i = a.here.0 in
      let j = b.here.0 in
      let first : get_or other.assets i p ≡ p = a.here.2 in
      let second : get_or other.assets j p ≡ q = get_or_from_slice_get other.assets j (get_or other.assets j q) p (slice_get-get_or other.assets j q b.here.1) ∙ b.here.2 in
      let named : p.name ≡ q.name = sym a.same.name ∙ b.same.name in
      ⊎_elim
      (λ early. absurd (within.names i j p early b.here.1 (ap (λ z. z.name) first ∙ (named ∙ ap (λ z. z.name) (sym second)))))
      (λ late. ⊎_elim
      (λ beyond. absurd (within.names j i p beyond a.here.1 (ap (λ z. z.name) second ∙ (sym named ∙ ap (λ z. z.name) (sym first)))))
      (λ level. let e : i ≡ j = omega (arith, late, level) in sym first ∙ (ap (λ k. get_or other.assets k p) e ∙ second))
      (cases_lt j i))
      (cases_lt i j)

  nothing_at : IsWithin other → (asset : Asset) → Passes other asset → HasNothing other asset
  nothing_at within asset p = record {
    partner = λ none. none p.partner p.found;
    cells = λ many.
        let few : cells_of asset many.partner ≤ most_cells = subst (λ q. cells_of asset q ≤ most_cells) (one_partner within asset p.partner many.partner p.found many.found) p.few in
        let more = many.many in
        omega (arith, few, more);
    difference = λ client act d.
        let allows_all : AllowsAllOf asset d.partner = subst (λ q. AllowsAllOf asset q) (one_partner within asset p.partner d.partner p.found d.found) p.allows in
        d.first.differs.refused (allows_all client act d.first.differs.in_range d.first.differs.allowed);
  }

  pub nothing : IsWithin other → (r : Result Compared CompareFault) → Answers ours other r → r ≡ Ok Included → All (HasNothing other) ours.assets
  nothing within r h e = All-weaker (Passes other) (HasNothing other) (nothing_at within) ours.assets (subst (Answers ours other) e h)

  stops_at : (n : ℕ) (reason : Asset → Type 0) → StopsAt ours other n reason → All (HasNothing other) ours.assets → ((asset : Asset) → HasNothing other asset → reason asset → ⊥) → ⊥
  stops_at n reason s all lacks = lacks s.asset (subst (HasNothing other) (get_or_from_slice_get ours.assets n s.asset s.asset s.here) (all n s.asset (slice_get_within ours.assets n s.asset s.here))) s.stops

  pub complete : (r : Result Compared CompareFault) → Answers ours other r → All (HasNothing other) ours.assets → IsIncludedUnlessMemory r
  complete (Ok Included) h all = tt
  complete (Ok (Missing n)) h all = stops_at n (HasNoPartner other) h all (λ asset none p. none.partner p)
  complete (Ok (Shown n client act)) h all = stops_at n (λ asset. HasDifference other asset client act) h all (λ asset none d. none.difference client act d)
  complete (Err fault.NoMemory) h all = tt
  complete (Err (fault.Cells n)) h all = stops_at n (HasTooManyCells other) h all (λ asset none m. none.cells m)
