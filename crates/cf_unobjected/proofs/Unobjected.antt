-- Units of a beginning of the stream to a controller, read by a judge.
use Rattle.std.proofs.Common.{◌≡◌, ◌<◌, ◌-◌, ◌∙◌, ◌++◌, ℕ, List, [], ◌∷◌, true, None, length, drop, slice_index, option_map, zero, suc, arith, refl, sym, ap, subst}
use Rattle.cf_unobjected.proofs.Common.{AreRead, SiteValue, place_for, Begins, Fate, HasSiteFate, IsPartial, Judged, Protocol, SpellsUnit, UnitValue, append-nil, complaint_of, completed_in, false≢true, first_wrong, goes_on, option_or, wrong}
use Rattle.cf_lane.proofs.Units.{free_unit, nothing_unit}
use Rattle.cf_view.specs.Units.{BeginsWithUnits}
use Rattle.cf_judge.specs.Plain as plain
use Rattle.cf_lane.specs.declared.fate.Fate.TheVariants as fate
use Rattle.cf_view.specs.declared.Side.TheVariants as side

-- a unit has an octet
some_octet : (p : Protocol) (xs : List ℕ) (u : UnitValue) (n : ℕ) → Begins (SpellsUnit p) xs u n → 0 < n
some_octet p xs u zero b =
    let w = nothing_unit p in
    let same = free_unit p u w.whole [] w.more w.more [] b.spells w.spells (sym (append-nil w.more)) in
    let none : length w.more ≡ 0 = sym (ap length same.1) in
    omega (arith, none, w.proper)
some_octet p xs u (suc n) b = omega arith

pub no_complaint : (f : Fate) → goes_on f ≡ true → complaint_of f ≡ None
no_complaint (fate.Refused refusal) e = absurd (false≢true e)
no_complaint (fate.Stray because) e = absurd (false≢true e)
no_complaint _ e = refl

module _ (site : SiteValue) (client : ℕ) where
  -- units, each with a fate that is no complaint after the earlier ones
  abbrev pub AreFine : List Judged → List UnitValue → Type 0
  AreFine earlier [] = Unit {0}
  AreFine earlier (u ∷ us) = (f : Fate) × HasSiteFate site client earlier u f × (complaint_of f ≡ None) × ((number : ℕ) → AreFine (earlier ++ completed_in number u f ∷ []) us)

  pub record Reads (earlier : List Judged) (bytes born : List ℕ) : Type 0 where
    pub judged : List Judged
    pub are_read : AreRead site client earlier bytes born judged plain.Whole
    pub nothing : first_wrong site judged plain.Whole ≡ None

  pub reads : (earlier : List Judged) (us : List UnitValue) (bytes born rest : List ℕ) → AreFine earlier us → BeginsWithUnits (SpellsUnit site.first.protocol) us bytes rest → IsPartial (SpellsUnit site.first.protocol) rest → Reads earlier bytes born
  reads earlier [] bytes born rest fine b p = record { judged = []; are_read = subst (IsPartial (SpellsUnit site.first.protocol)) (sym b) p; nothing = refl }
  reads earlier (u ∷ us) bytes born rest fine b p =
      let number = slice_index born (b.0 - 1) in
      let j = completed_in number u fine.0 in
      let later = reads (earlier ++ j ∷ []) us (drop b.0 bytes) (drop b.0 born) rest (fine.3 number) b.2 p in
      record {
        judged = j ∷ later.judged;
        are_read = (u, b.0, b.1, some_octet site.first.protocol bytes u b.0 b.1, refl, fine.1, later.are_read);
        nothing = ap (λ o. option_or (option_map (wrong number (place_for site side.Client u)) o) (first_wrong site later.judged plain.Whole)) fine.2 ∙ later.nothing;
      }
