-- A judgement without an objection has none to any flow: no conflict, and nothing wrong with a unit or behind them.
use Rattle.std.proofs.Common.{◌≡◌, List, [], ◌∷◌, Bool, true, false, if◌then◌else◌, Option, None, Some, option_map, refl, sym, nat_lt}
use Rattle.cf_unobjected.proofs.Common.{AllByRecursion, Asset, Breaks, Ending, FlowValue, Judged, Objection, Reading, SiteValue, Whole, complaint_of, first_wrong, item_place, none-some, objected, objection_in, objection_of, objection_to, option_or, site_from, sooner, wrong, wrong_by}
use Rattle.cf_judge.specs.Objections.{earlier, wrong_at, wrong_in}

-- ---- options

none_mapped : {A B : Type 0} (f : A → B) (o : Option A) → option_map f o ≡ None → o ≡ None
none_mapped f None e = refl
none_mapped f (Some x) e = absurd (none-some (f x) (sym e))

none_or : {A : Type 0} (a b : Option A) → option_or a b ≡ None → (a ≡ None) × (b ≡ None)
none_or None b e = (refl, e)
none_or (Some x) b e = absurd (none-some x (sym e))

some_if : {A : Type 0} (c : Bool) (x y : A) → (if c then Some x else Some y) ≡ None → ⊥
some_if true x y e = none-some x (sym e)
some_if false x y e = none-some y (sym e)

none_earlier : (a b : Option Objection) → earlier a b ≡ None → (a ≡ None) × (b ≡ None)
none_earlier None b e = (refl, e)
none_earlier (Some a) None e = absurd (none-some a (sym e))
none_earlier (Some a) (Some b) e = absurd (some_if (nat_lt b.at_record a.at_record) b a e)

-- ---- a flow

-- its bytes end whole, and no unit is complained of
pub record IsClean (js : List Judged) (ending : Ending) : Type 0 where
  pub whole : ending ≡ Whole
  pub fine : AllByRecursion (λ j. complaint_of j.fate ≡ None) js

whole_by : (ending : Ending) → wrong_at ending ≡ None → ending ≡ Whole
whole_by Whole e = refl
whole_by (Breaks number reason) e = absurd (none-some _ (sym e))

pub clean : (site : SiteValue) (js : List Judged) (ending : Ending) → first_wrong site js ending ≡ None → IsClean js ending
clean site [] ending e = record { whole = whole_by ending e; fine = tt }
clean site (j ∷ js) ending e =
    let both = none_or (wrong_in site j) (first_wrong site js ending) e in
    let later = clean site js ending both.1 in
    record { whole = later.whole; fine = (none_mapped (wrong j.moment (item_place site j.item)) (complaint_of j.fate) both.0, later.fine) }

pub no_conflict : (site : SiteValue) (f : FlowValue) (js : List Judged) (ending : Ending) → objection_of site f js ending ≡ None → (f.conflict ≡ None) × (first_wrong site js ending ≡ None)
no_conflict site f js ending e = by f.conflict (first_wrong site js ending) (none_mapped (objected f) (sooner (option_map wrong_by f.conflict) (first_wrong site js ending)) e) where
  by : (c : _) (first : _) → sooner (option_map wrong_by c) first ≡ None → (c ≡ None) × (first ≡ None)
  by None first e = (refl, e)
  by (Some c) None e = absurd (none-some _ (sym e))
  by (Some c) (Some w) e = absurd (some_if (nat_lt w.number c.at_record) w (wrong_by c) e)

-- ---- all of them

pub nothing_to : (assets : List Asset) (first : Option Objection) (rs : List Reading) → objection_to assets first rs ≡ None →
    (first ≡ None) × AllByRecursion (λ r. objection_in (site_from assets r.flow.asset) r ≡ None) rs
nothing_to assets first [] e = (e, tt)
nothing_to assets first (r ∷ rs) e =
    let later = nothing_to assets (earlier first (objection_in (site_from assets r.flow.asset) r)) rs e in
    let both = none_earlier first (objection_in (site_from assets r.flow.asset) r) later.0 in
    (both.0, (both.1, later.1))
