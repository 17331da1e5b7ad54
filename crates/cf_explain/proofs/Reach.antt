-- A rule and a kind of acts that have an act in common meet.
use Rattle.std.proofs.Common.{◌≡◌, ℕ, ℤ, pos, int_le, true, false, List, [], ◌∷◌, Option, Some, None, refl, sym, subst, ◌∙◌, arith}
use mathlib.Core.Logic.{⊎_elim}
use Rattle.std.specs.List.{list_any}
use Rattle.std.proofs.lemmas.Int.{ints}
use Rattle.std.proofs.lemmas.Bool.{true≢false, and_parts, and_from, or_cases, or_left, or_right, false_from_ne_true}
use Rattle.std.proofs.lemmas.List.Folds.{Any-from_list_any, list_any-from_Any}
use Rattle.cf_view.specs.declared.base.Act.{Act}
use Rattle.cf_policy.specs.declared.policy.Protocol.{Protocol}
use Rattle.cf_policy.specs.declared.policy.Rule.{Rule}
use Rattle.cf_policy.specs.declared.policy.Span.{Span}
use Rattle.cf_policy.specs.Verdict.{covers, takes, takes_value, has_act}
use Rattle.cf_acts.specs.declared.Groups.{Groups}
use Rattle.cf_acts.specs.declared.Groups.TheVariants as groups
use Rattle.cf_acts.specs.declared.Kind.{Kind}
use Rattle.cf_acts.specs.Acts.{between, has_group, has_value, is_of_kind, kinds}
use Rattle.cf_covered.specs.Common.{overlap}
use Rattle.cf_explain.specs.Meets.{reaches, reaches_groups, reaches_values, meets}
use Rattle.cf_explain.specs.Rules.{NeverHas}
use Rattle.cf_acts.proofs.OfCommands.{command_acts_in}

-- a number in both
met : (s t : Span) (n : ℤ) → covers s n ≡ true → covers t n ≡ true → overlap s t ≡ true
met s t n a b =
    let first = and_parts (int_le s.low n) (int_le n s.high) a in
    let second = and_parts (int_le t.low n) (int_le n t.high) b in
    and_from (int_le s.low t.high) (int_le t.low s.high) (grind (arith, ints, first.0, second.1)) (grind (arith, ints, first.1, second.0))

reach : (spans : List Span) (t : Span) (n : ℤ) → takes spans n ≡ true → covers t n ≡ true → reaches spans t ≡ true
reach [] t n a b = refl
reach (s ∷ ss) t n a b =
    let found = Any-from_list_any (λ x. covers x n) (s ∷ ss) a in
    list_any-from_Any (λ x. overlap x t) (s ∷ ss) (found.0, found.1, found.2, found.3, met found.1 t n found.4 b)

reach_groups : (spans : List Span) (g : Groups) (n : ℤ) → takes spans n ≡ true → has_group g n ≡ true → reaches_groups spans g ≡ true
reach_groups spans (groups.Span s) n a b = reach spans s n a b
reach_groups spans groups.Causes n a b =
    ⊎_elim
    (λ five. or_left _ _ (reach spans (between 5 5) n a five))
    (λ others. or_right (reaches spans (between 5 5)) _ (⊎_elim
    (λ six. or_left _ _ (reach spans (between 6 6) n a six))
    (λ eight. or_right (reaches spans (between 6 6)) _ (reach spans (between 8 8) n a eight))
    (or_cases (covers (between 6 6) n) (covers (between 8 8) n) others)))
    (or_cases (covers (between 5 5) n) _ b)

reach_values : (spans : List Span) (v : Option Span) (x : Option ℤ) → takes_value spans x ≡ true → has_value v x ≡ true → reaches_values spans v ≡ true
reach_values [] None x a b = refl
reach_values [] (Some s) x a b = refl
reach_values (t ∷ ts) None None a b = a
reach_values (t ∷ ts) None (Some n) a b = b
reach_values (t ∷ ts) (Some s) None a b = absurd (true≢false (sym a))
reach_values (t ∷ ts) (Some s) (Some n) a b = reach (t ∷ ts) s n a b

meet : (r : Rule) (k : Kind) (client : ℕ) (act : Act) → has_act r client act ≡ true → is_of_kind act k ≡ true → meets r k ≡ true
meet r k client act has is =
    let has_point = and_parts _ (takes_value r.values act.value) has in
    let has_function = and_parts _ (takes r.points (pos act.point)) has_point.0 in
    let has_code = and_parts (takes r.clients (pos client)) _ has_function.0 in
    let has_group_only = and_parts (takes r.codes (pos act.code)) (takes r.groups (pos act.group)) has_code.1 in
    let group_is = and_parts (has_group k.groups (pos act.group)) _ is in
    let place_is = and_parts (covers k.points (pos act.point)) (has_value k.values act.value) group_is.1 in
    and_from (reaches_groups r.groups k.groups) _ (reach_groups r.groups k.groups (pos act.group) has_group_only.1 group_is.0)
    (and_from (reaches r.points k.points) _ (reach r.points k.points (pos act.point) has_function.1 place_is.0)
    (reach_values r.values k.values act.value has_point.1 place_is.1))

-- where no kind of the code meets the rule, it has no act of the code
pub never_has : (p : Protocol) (r : Rule) (code : ℕ) → list_any (meets r) (kinds p code) ≡ false → NeverHas p r code
never_has p r code none client act same of = false_from_ne_true (has_act r client act) (λ has.
    let found = Any-from_list_any (is_of_kind act) (kinds p act.code) (command_acts_in p act of) in
    let some : list_any (meets r) (kinds p act.code) ≡ true =
    list_any-from_Any (meets r) (kinds p act.code) (found.0, found.1, found.2, found.3, meet r found.1 client act has found.4) in
    true≢false (sym some ∙ subst (λ c. list_any (meets r) (kinds p c) ≡ false) (sym same) none))
