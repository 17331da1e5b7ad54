-- The octets of a flow are read in one way.
use Rattle.std.proofs.Common.{◌≡◌, ◌-◌, ◌∙◌, ◌++◌, ℕ, List, [], ◌∷◌, drop, slice_index, refl, sym, ap, subst}
use Rattle.cf_unobjected.proofs.Common.{Adu, AreRead, SiteValue, asset_for, Begins, Breaks, Ending, Fate, HasSiteFate, Judged, SpellsUnit, UnitValue, Whole, completed_in, verdict_of}
use Rattle.cf_judge.specs.Plain.{HasEnding}
use Rattle.cf_lane.proofs.Commands.{has_one_fate}
use Rattle.cf_lane.proofs.Units.{free_unit}
use Rattle.cf_lane.specs.Unit.{unit_break}
use Rattle.cf_view.specs.declared.Side.TheVariants as side
use Rattle.cf_view.proofs.Framing.{one_break, one_unit, partial_not_broken, unit_not_broken, unit_not_partial}

module _ (site : SiteValue) (client : ℕ) where
  abbrev Spells : UnitValue → List ℕ → Type 0
  Spells = SpellsUnit site.first.protocol

  one_ending : (bytes born : List ℕ) (x y : Ending) → HasEnding site bytes born x → HasEnding site bytes born y → x ≡ y
  one_ending bytes born Whole Whole h g = refl
  one_ending bytes born Whole (Breaks m r) h g = absurd (partial_not_broken Spells (free_unit site.first.protocol) bytes g.0 h g.1)
  one_ending bytes born (Breaks n r) Whole h g = absurd (partial_not_broken Spells (free_unit site.first.protocol) bytes h.0 g h.1)
  one_ending bytes born (Breaks n r) (Breaks m q) h g =
      let place : h.0 ≡ g.0 = one_break Spells (free_unit site.first.protocol) bytes h.0 g.0 h.1 g.1 in
      let number : n ≡ m = h.3 ∙ ap (slice_index born) place ∙ sym g.3 in
      let reason : r ≡ q = h.2 ∙ ap (unit_break site.first.protocol) place ∙ sym g.2 in
      ap (λ k. Breaks k r) number ∙ ap (Breaks m) reason

  never_both : (bytes born : List ℕ) (x : Ending) (u : UnitValue) (n : ℕ) → HasEnding site bytes born x → Begins Spells bytes u n → ⊥
  never_both bytes born Whole u n h b = unit_not_partial Spells (free_unit site.first.protocol) bytes u n b h
  never_both bytes born (Breaks m r) u n h b = unit_not_broken Spells (free_unit site.first.protocol) bytes u n h.0 b h.1

  one_fate : (earlier : List Judged) (u : UnitValue) (f g : Fate) → HasSiteFate site client earlier u f → HasSiteFate site client earlier u g → f ≡ g
  one_fate earlier (Adu a) f g h k = has_one_fate (asset_for site side.Client (Adu a)) (verdict_of (asset_for site side.Client (Adu a)) client) a f g h k
  one_fate earlier _ f g h k = h ∙ sym k

  pub one_reading : (earlier : List Judged) (bytes born : List ℕ) (js ks : List Judged) (x y : Ending) → AreRead site client earlier bytes born js x →
      AreRead site client earlier bytes born ks y → (js ≡ ks) × (x ≡ y)
  one_reading earlier bytes born [] [] x y h g = (refl, one_ending bytes born x y h g)
  one_reading earlier bytes born [] (k ∷ ks) x y h g = absurd (never_both bytes born x g.0 g.1 h g.2)
  one_reading earlier bytes born (j ∷ js) [] x y h g = absurd (never_both bytes born y h.0 h.1 g h.2)
  one_reading earlier bytes born (j ∷ js) (k ∷ ks) x y h g =
      let unit = one_unit Spells (free_unit site.first.protocol) bytes h.0 g.0 h.1 g.1 h.2 g.2 in
      let same : j.fate ≡ k.fate = one_fate earlier g.0 j.fate k.fate (subst (λ u. HasSiteFate site client earlier u j.fate) unit.0 h.5) g.5 in
      let first : j ≡ k =
      h.4 ∙ ap (λ n. completed_in (slice_index born (n - 1)) h.0 j.fate) unit.1 ∙ ap (λ u. completed_in (slice_index born (g.1 - 1)) u j.fate) unit.0
      ∙ ap (completed_in (slice_index born (g.1 - 1)) g.0) same ∙ sym g.4 in
      let behind = subst (λ i. AreRead site client (earlier ++ i ∷ []) (drop g.1 bytes) (drop g.1 born) js x) first
      (subst (λ n. AreRead site client (earlier ++ j ∷ []) (drop n bytes) (drop n born) js x) unit.1 h.6) in
      let later = one_reading (earlier ++ k ∷ []) (drop g.1 bytes) (drop g.1 born) js ks x y behind g.6 in
      (ap (λ i. i ∷ js) first ∙ ap (λ is. k ∷ is) later.0, later.1)
