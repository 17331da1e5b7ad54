-- The acts that the log shows of admitted commands: the first that a rule with a log allows.
use Rattle.cf_lane.specs.Acts.{first_shown, shown_by}
use Rattle.cf_lane.specs.Rates.{Says}
use Rattle.cf_lane.specs.Run.{HaveVerdict}
use Rattle.cf_lane.specs.declared.fate.Shown.{Shown}
use Rattle.cf_policy.specs.Logged.{is_logged}
use Rattle.cf_policy.specs.declared.Rule.{Rule}
use Rattle.cf_policy.specs.declared.Verdict.{Verdict}
use Rattle.cf_view.specs.declared.Act.{Act}
use Rattle.std.proofs.Common.{Bool, List, None, Option, Some, [], ap, arith, get_or, length, refl, slice_get, subst, suc, sym, take, zero, true, false, ℕ, ◌++◌, ◌+◌, ◌-◌, ◌<◌, ◌∙◌, ◌∷◌, ◌≡◌, ◌≤◌}
use Rattle.std.proofs.lemmas.List.{take_all, take_more}
use Rattle.std.proofs.lemmas.Option.{same_Some, slice_get-get_or}
use Rattle.std.specs.Option.{option_or}
use Rattle.std.specs.Prelude.{if◌then◌else◌}
use Rattle.cf_policy.specs.declared.Verdict.TheVariants as verdict

pub or_none : (a : Option Shown) → option_or a None ≡ a
or_none None = refl
or_none (Some x) = refl

or_assoc : (a b c : Option Shown) → option_or (option_or a b) c ≡ option_or a (option_or b c)
or_assoc None b c = refl
or_assoc (Some x) b c = refl

first_shown-append : (rules : List Rule) (says : Says) (xs ys : List Act) → first_shown rules says (xs ++ ys) ≡ option_or (first_shown rules says xs) (first_shown rules says ys)
first_shown-append rules says [] ys = refl
first_shown-append rules says (x ∷ xs) ys =
    ap (option_or (shown_by rules x (says x))) (first_shown-append rules says xs ys)
    ∙ sym (or_assoc (shown_by rules x (says x)) (first_shown rules says xs) (first_shown rules says ys))

no_act : Act
no_act = record { code = 0; group = 0; point = 0; value = None }

-- one act more
one_more : (rules : List Rule) (says : Says) (list : List Act) (i : ℕ) → i < length list →
    first_shown rules says (take (i + 1) list) ≡ option_or (first_shown rules says (take i list)) (shown_by rules (get_or list i no_act) (says (get_or list i no_act)))
one_more rules says list i inside =
    let act = get_or list i no_act in
    ap (first_shown rules says) (take_more list i no_act inside) ∙ first_shown-append rules says (take i list) (act ∷ [])
    ∙ ap (option_or (first_shown rules says (take i list))) (or_none (shown_by rules act (says act)))

-- of acts that one rule allows the first alone is shown
twice : (b : Bool) (f : Option Shown) (x y : Shown) → option_or (option_or f (if b then Some x else None)) (if b then Some y else None) ≡ option_or f (if b then Some x else None)
twice true None x y = refl
twice true (Some z) x y = refl
twice false f x y = or_none (option_or f None)

shown_run : (rules : List Rule) (says : Says) (list : List Act) (i n m : ℕ) → HaveVerdict says list i (i + suc n) (verdict.Allow m) → i + suc n ≤ length list →
    first_shown rules says (take (i + suc n) list) ≡ option_or (first_shown rules says (take i list)) (shown_by rules (get_or list i no_act) (verdict.Allow m))
shown_run rules says list i zero m have inside =
    let act = get_or list i no_act in
    let e : i + 1 ≡ i + suc zero = omega arith in
    let at : slice_get list i ≡ Some act = slice_get-get_or list i no_act (omega (arith, inside)) in
    subst (λ k. first_shown rules says (take k list) ≡ option_or (first_shown rules says (take i list)) (shown_by rules act (verdict.Allow m))) e
    (one_more rules says list i (omega (arith, inside))
    ∙ ap (λ v. option_or (first_shown rules says (take i list)) (shown_by rules act v)) (have i act (omega arith) (omega arith) at))
shown_run rules says list i (suc n) m have inside =
    let k : ℕ = i + suc n in
    let act = get_or list i no_act in
    let last = get_or list k no_act in
    let earlier = shown_run rules says list i n m (λ j a from to at. have j a from (omega (arith, to)) at) (omega (arith, inside)) in
    let at : slice_get list k ≡ Some last = slice_get-get_or list k no_act (omega (arith, inside)) in
    let e : k + 1 ≡ i + suc (suc n) = omega arith in
    subst (λ x. first_shown rules says (take x list) ≡ option_or (first_shown rules says (take i list)) (shown_by rules act (verdict.Allow m))) e
    (one_more rules says list k (omega (arith, inside))
    ∙ ap (λ v. option_or (first_shown rules says (take k list)) (shown_by rules last v)) (have k last (omega arith) (omega arith) at)
    ∙ ap (λ f. option_or f (shown_by rules last (verdict.Allow m))) earlier
    ∙ twice (is_logged rules m) (first_shown rules says (take i list)) (record { rule = m; act = act }) (record { rule = m; act = last }))

-- what is shown so far, after acts that one rule allows
pub shown_to : (rules : List Rule) (says : Says) (list : List Act) (from to m : ℕ) (v : Verdict) (act : Act) (shown now : Option Shown) →
    HaveVerdict says list from to v → v ≡ verdict.Allow m → slice_get list from ≡ Some act → from < to → to ≤ length list →
    now ≡ option_or shown (shown_by rules act (verdict.Allow m)) → shown ≡ first_shown rules says (take from list) → now ≡ first_shown rules says (take to list)
shown_to rules says list from to m v act shown now have allows here more inside is before =
    let n : ℕ = to - from - 1 in
    let e : from + suc n ≡ to = omega (arith, more) in
    let same : get_or list from no_act ≡ act = same_Some _ _ (sym (slice_get-get_or list from no_act (omega (arith, more, inside))) ∙ here) in
    let run = shown_run rules says list from n m (λ j a below above at. have j a below (omega (arith, above, more)) at ∙ allows) (omega (arith, more, inside)) in
    is ∙ ap (λ f. option_or f (shown_by rules act (verdict.Allow m))) before
    ∙ ap (λ a. option_or (first_shown rules says (take from list)) (shown_by rules a (verdict.Allow m))) (sym same)
    ∙ sym run ∙ ap (λ k. first_shown rules says (take k list)) e

-- at the end all acts were looked at
pub all_shown : (rules : List Rule) (says : Says) (list : List Act) (i : ℕ) (shown : Option Shown) → length list ≤ i → shown ≡ first_shown rules says (take i list) →
    shown ≡ first_shown rules says list
all_shown rules says list i shown past is = is ∙ ap (first_shown rules says) (take_all i list past)
