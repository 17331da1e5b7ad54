-- The bytes of a flow, read up to a place.
use Rattle.std.proofs.Common.{◌≡◌, ◌+◌, ◌-◌, ◌<◌, ◌≤◌, ◌∙◌, ℕ, List, [], ◌∷◌, ◌++◌, length, drop, get_or, Option, Some, None, refl, sym, ap, subst, arith, append_assoc, true, false, Bool}
use Rattle.std.specs.Option.{option_or}
use Rattle.std.proofs.lemmas.List.{append-nil, drop-drop, drop_all, get_or-drop, length-drop}
use Rattle.cf_lane.proofs.Units.{nothing_unit}
use Rattle.cf_lane.specs.Judged.{Judged, is_admitted, one_if}
use Rattle.cf_lane.specs.Site.{place_for}
use Rattle.cf_lane.specs.Unit.{SpellsUnit, unit_break}
use Rattle.cf_lane.specs.declared.fate.Fate.{Fate}
use Rattle.cf_lane.specs.declared.fate.Fate.TheVariants as fate
use Rattle.cf_policy.specs.Site.{SiteValue}
use Rattle.cf_view.specs.Framing.{BreaksAt, IsPartial}
use Rattle.cf_view.specs.declared.Break.{Break}
use Rattle.cf_watch.specs.FlowValue.{FlowValue}
use Rattle.cf_judge.specs.Front.{IsReaderOf, TakesUnit}
use Rattle.cf_judge.specs.Found.{IsFoundIn, with_ruling, with_wrong}
use Rattle.cf_judge.specs.Objections.{admitted_in, first_wrong, wrong, wrong_by_fate, wrong_in}
use Rattle.cf_judge.specs.Plain.{AreRead, Breaks, Ending, Whole, completed_in}
use Rattle.cf_judge.specs.Ruling.{ruling_of}
use Rattle.cf_judge.specs.declared.ruling.Ruling.{Ruling}
use Rattle.cf_judge.specs.declared.front.Reader.{Reader}
use Rattle.cf_judge.specs.declared.judging.Found.{Found}
use Rattle.cf_judge.specs.declared.ruling.Complaint.TheVariants as complaint
use Rattle.cf_view.specs.declared.Side.TheVariants as side

-- with these units in front, those from a place on are those of the flow
pub record SoFar (site : SiteValue) (f : FlowValue) (at : ℕ) (r : Reader) (found : Found) : Type 0 where
  pub units : List Judged
  pub leads : (js : List Judged) (ending : Ending) → AreRead site f.client.address units (drop at f.bytes) (drop at f.born) js ending → AreRead site f.client.address [] f.bytes f.born (units ++ js) ending
  pub reader : IsReaderOf site f.client.address units r
  pub commands : found.commands ≡ admitted_in units
  pub first : found.first ≡ first_wrong site units Whole
  pub inside : at ≤ length f.bytes
  pub few : found.commands ≤ at

or_assoc : {X : Type 0} (x y z : Option X) → option_or (option_or x y) z ≡ option_or x (option_or y z)
or_assoc None y z = refl
or_assoc (Some l) y z = refl

or_none : {X : Type 0} (x : Option X) → option_or x None ≡ x
or_none None = refl
or_none (Some l) = refl

first_append : (site : SiteValue) (us js : List Judged) (ending : Ending) → first_wrong site (us ++ js) ending ≡ option_or (first_wrong site us Whole) (first_wrong site js ending)
first_append site [] js ending = refl
first_append site (u ∷ us) js ending = ap (option_or (wrong_in site u)) (first_append site us js ending) ∙ sym (or_assoc (wrong_in site u) (first_wrong site us Whole) (first_wrong site js ending))

admitted_more : (us : List Judged) (j : Judged) → admitted_in (us ++ j ∷ []) ≡ admitted_in us + one_if (is_admitted j.fate)
admitted_more [] j = omega arith
admitted_more (u ∷ us) j = let h = admitted_more us j in omega (arith, h)

few_more : (b : Bool) → one_if b ≤ 1
few_more true = omega arith
few_more false = omega arith

-- a ruling counts as the fate does
counted : (found : Found) (number place : ℕ) (f : Fate) → (with_ruling found number place (ruling_of f)).commands ≡ found.commands + one_if (is_admitted f)
counted found number place (fate.Refused refusal) = omega arith
counted found number place (fate.Stray because) = omega arith
counted found number place (fate.Admitted used) = refl
counted found number place fate.Carried = omega arith
counted found number place fate.Lengthens = omega arith
counted found number place (fate.Cuts because) = omega arith

first_found : (found : Found) (number place : ℕ) (f : Fate) → (with_ruling found number place (ruling_of f)).first ≡ option_or found.first (wrong_by_fate number place f)
first_found found number place (fate.Refused refusal) = refl
first_found found number place (fate.Stray because) = refl
first_found found number place (fate.Admitted used) = sym (or_none found.first)
first_found found number place fate.Carried = sym (or_none found.first)
first_found found number place fate.Lengthens = sym (or_none found.first)
first_found found number place (fate.Cuts because) = sym (or_none found.first)

pub so_far_first : (site : SiteValue) (f : FlowValue) (r : Reader) → IsReaderOf site f.client.address [] r → SoFar site f 0 r (record { commands = 0; first = None })
so_far_first site f r h = record {
  units = [];
  leads = λ js ending are. are;
  reader = h;
  commands = refl;
  first = refl;
  inside = omega arith;
  few = omega arith;
}

module _ (site : SiteValue) (f : FlowValue) (at : ℕ) (r : Reader) (found : Found) (so : SoFar site f at r found) where
  pub so_far_on : (p : Ruling) (place used : ℕ) (new : Reader) (number : ℕ) → length f.born ≡ length f.bytes → TakesUnit site f.client.address so.units (drop at f.bytes) p place used new →
      number ≡ get_or f.born (at + used - 1) 0 → SoFar site f (at + used) new (with_ruling found number place p)
  so_far_on p place used new number sizes t is =
      let some : 0 < used = t.some in
      let inside : used ≤ length (drop at f.bytes) = t.begins.inside in
      let size : length (drop at f.bytes) ≡ length f.bytes - at = length-drop at f.bytes in
      let last : at + used - 1 ≡ at + (used - 1) = omega (arith, some) in
      let number_is : get_or (drop at f.born) (used - 1) 0 ≡ number = get_or-drop at f.born (used - 1) 0 ∙ ap (λ n. get_or f.born n 0) (sym last) ∙ sym is in
      let j = completed_in number t.unit t.fate in
      let b = few_more (is_admitted t.fate) in
      let old_few = so.few in
      let now = counted found number place t.fate in
      subst (λ q. SoFar site f (at + used) new (with_ruling found number place q)) (sym t.counts) (record {
        units = so.units ++ j ∷ [];
        leads = λ js ending are. subst (λ xs. AreRead site f.client.address [] f.bytes f.born xs ending) (sym (append_assoc so.units (j ∷ []) js))
            (so.leads (j ∷ js) ending (
              t.unit,
              used,
              t.begins,
              some,
              ap (λ n. completed_in n t.unit t.fate) (sym number_is),
              t.has_fate,
              subst (λ xs. AreRead site f.client.address (so.units ++ j ∷ []) xs (drop used (drop at f.born)) js ending) (sym (drop-drop used at f.bytes))
                  (subst (λ ys. AreRead site f.client.address (so.units ++ j ∷ []) (drop (at + used) f.bytes) ys js ending) (sym (drop-drop used at f.born)) are),
            ));
        reader = t.goes_on number;
        commands = now ∙ ap (λ n. n + one_if (is_admitted t.fate)) so.commands ∙ sym (admitted_more so.units j);
        first = first_found found number place t.fate ∙ ap (λ o. option_or o (wrong_by_fate number place t.fate)) so.first
            ∙ ap (λ k. option_or (first_wrong site so.units Whole) (wrong_by_fate number k t.fate)) t.is_for
            ∙ ap (option_or (first_wrong site so.units Whole)) (sym (or_none (wrong_by_fate number (place_for site side.Client t.unit) t.fate)))
            ∙ sym (first_append site so.units (j ∷ []) Whole);
        inside = omega (arith, size, inside, so.inside);
        few = omega (arith, b, some, old_few, now);
      })

  pub found_rest : IsPartial (SpellsUnit site.first.protocol) (drop at f.bytes) → IsFoundIn site f found
  found_rest h = record {
    judged = so.units;
    ending = Whole;
    are_read = subst (λ xs. AreRead site f.client.address [] f.bytes f.born xs Whole) (append-nil so.units) (so.leads [] Whole h);
    commands = so.commands;
    first = so.first;
  }

  pub found_break : (reason : Break) (place number : ℕ) → BreaksAt (SpellsUnit site.first.protocol) (drop at f.bytes) place → reason ≡ unit_break site.first.protocol place →
      number ≡ get_or f.born (at + place) 0 → IsFoundIn site f (with_wrong found (wrong number 0 (complaint.Broken reason)))
  found_break reason place number b is number_is = record {
    judged = so.units;
    ending = Breaks number reason;
    are_read = subst (λ xs. AreRead site f.client.address [] f.bytes f.born xs (Breaks number reason)) (append-nil so.units)
        (so.leads [] (Breaks number reason) (place, b, is, number_is ∙ sym (get_or-drop at f.born place 0)));
    commands = so.commands;
    first = ap (λ o. option_or o (Some (wrong number 0 (complaint.Broken reason)))) so.first ∙ sym (first_append site so.units [] (Breaks number reason))
        ∙ ap (λ us. first_wrong site us (Breaks number reason)) (append-nil so.units);
  }

  -- what was told of the bytes that were lent
  module _ (read : List ℕ) (same : read ≡ drop at f.bytes) where
    pub took : (p : Ruling) (place used : ℕ) (new : Reader) → ((client : ℕ) (earlier : List Judged) → IsReaderOf site client earlier r → TakesUnit site client earlier read p place used new) →
        TakesUnit site f.client.address so.units (drop at f.bytes) p place used new
    took p place used new h = subst (λ xs. TakesUnit site f.client.address so.units xs p place used new) same (h f.client.address so.units so.reader)

    pub waits : ((client : ℕ) (earlier : List Judged) → IsReaderOf site client earlier r → IsPartial (SpellsUnit site.first.protocol) read) → IsPartial (SpellsUnit site.first.protocol) (drop at f.bytes)
    waits h = subst (IsPartial (SpellsUnit site.first.protocol)) same (h f.client.address so.units so.reader)

    pub broke : (reason : Break) (place : ℕ) →
        ((client : ℕ) (earlier : List Judged) → IsReaderOf site client earlier r → BreaksAt (SpellsUnit site.first.protocol) read place × (reason ≡ unit_break site.first.protocol place)) →
        BreaksAt (SpellsUnit site.first.protocol) (drop at f.bytes) place × (reason ≡ unit_break site.first.protocol place)
    broke reason place h = subst (λ xs. BreaksAt (SpellsUnit site.first.protocol) xs place × (reason ≡ unit_break site.first.protocol place)) same (h f.client.address so.units so.reader)

  pub took_inside : (p : Ruling) (place used : ℕ) (new : Reader) → TakesUnit site f.client.address so.units (drop at f.bytes) p place used new → (at + used ≤ length f.bytes) × (0 < used)
  took_inside p place used new t =
      let some : 0 < used = t.some in
      let inside : used ≤ length (drop at f.bytes) = t.begins.inside in
      let size : length (drop at f.bytes) ≡ length f.bytes - at = length-drop at f.bytes in
      (omega (arith, size, inside, so.inside, some), some)

  pub broke_inside : (place : ℕ) → BreaksAt (SpellsUnit site.first.protocol) (drop at f.bytes) place → at + place < length f.bytes
  broke_inside place b =
      let inside : place < length (drop at f.bytes) = b.inside in
      let size : length (drop at f.bytes) ≡ length f.bytes - at = length-drop at f.bytes in
      omega (arith, size, inside, so.inside)

  pub found_all : length f.bytes ≤ at → IsFoundIn site f found
  found_all h = found_rest (subst (IsPartial (SpellsUnit site.first.protocol)) (sym (drop_all at f.bytes h)) (nothing_unit site.first.protocol))

pub found_nothing : (site : SiteValue) (f : FlowValue) → f.bytes ≡ [] → IsFoundIn site f (record { commands = 0; first = None })
found_nothing site f e = record {
  judged = [];
  ending = Whole;
  are_read = subst (IsPartial (SpellsUnit site.first.protocol)) (sym e) (nothing_unit site.first.protocol);
  commands = refl;
  first = refl;
}
