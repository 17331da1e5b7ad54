-- What an asset's rules say of an act whose point at most one rule of the code takes.
use Rattle.std.proofs.Common.{◌≡◌, ℕ, ◌≤◌, pos, Bool, true, false, not, if◌then◌else◌, ◌&&◌, List, Some, refl, sym, ap, subst, ◌∙◌, arith}
use Rattle.std.specs.Prelude.{slice_get, Contains}
use Rattle.std.specs.List.{list_any}
use Rattle.std.specs.Cmp.{both_ways, first_so, second_so}
use Rattle.std.proofs.lemmas.Bool.{cases_Bool, false≢true}
use Rattle.std.proofs.lemmas.List.Folds.{Any-from_list_any, list_any-from_Any}
use Rattle.std.proofs.lemmas.Option.{slice_get_within, slice_get-get_or, get_or_from_slice_get}
use mathlib.Core.Logic.{⊎_elim}
use Rattle.cf_view.specs.declared.base.Act.{Act}
use Rattle.cf_view.specs.declared.base.Reason.{Reason}
use Rattle.cf_view.specs.declared.base.Reason.TheVariants as reason
use Rattle.cf_policy.specs.declared.policy.Rule.{Rule}
use Rattle.cf_policy.specs.declared.policy.Asset.{Asset}
use Rattle.cf_policy.specs.declared.policy.Verdict.{Verdict}
use Rattle.cf_policy.specs.declared.policy.Verdict.TheVariants as verdict
use Rattle.cf_policy.specs.declared.policy.Decider.TheVariants as decider
use Rattle.cf_policy.specs.declared.index.CodePair.{CodePair}
use Rattle.cf_policy.specs.declared.point_table.Taker.TheVariants.{Nobody, Only, Unknown}
use Rattle.cf_policy.specs.declared.point_table.Taker.{Taker}
use Rattle.cf_policy.specs.Verdict.{by_rule, takes, takes_value, numbered, has_act, has_point, has_function, is_allow, decided, default_reason, verdict_of}
use Rattle.cf_policy.specs.Index.{ArePairsOf, IsPartOfCode, rule_at, has_group, has_group_and_point, has_group_to_value}
use Rattle.cf_policy.specs.PointTable.{takes_point, HasTaker}
use Rattle.cf_policy.specs.Run.{at_point, HasOneVerdict, IsSteady}
use Rattle.cf_policy.proofs.Runs.{value_at, point_at}
use Rattle.cf_policy.proofs.FirstRule.{verdict_is, cases, default_is}
use Rattle.cf_policy.proofs.ByCode.{are_named, some_same, is_named, named, group_named, group_is, point_is, value_is}

-- what is said where the rule of this place alone may have the act: of an allow rule's group, of the act and of an allow rule's point
abbrev says_of : List Rule → ℕ → (group has point : Bool) → Verdict
says_of rules n group has point =
    if has then decided (numbered rules n) reason.Value
    else verdict.Refuse decider.Default (if not group then reason.Function else if not point then reason.Point else reason.Value)

-- whether some allow rule has the act's client, code and group, told by the pairs of the code
pub group_same : (asset : Asset) (client : ℕ) (act : Act) (pairs part : List CodePair) → ArePairsOf asset client pairs → IsPartOfCode act.code pairs part
    → list_any (λ p. rule_at asset.rules p.rule (λ r. is_allow r.action && has_group r act)) part ≡ list_any (λ r. is_allow r.action && has_function r client act) asset.rules
group_same asset client act pairs part of_client of_code =
    some_same asset.rules (is_named client act.code) part (are_named asset client act.code pairs part of_client of_code)
    (λ r. is_allow r.action && has_function r client act) (λ r. is_allow r.action && has_group r act)
    (group_named client act) (λ r h i. is_allow r.action && group_is client act r h i)

module _ (asset : Asset) (client : ℕ) (act : Act) (pairs : List CodePair) (of_client : ArePairsOf asset client pairs) where
  abbrev rules : List Rule
  rules = asset.rules

  abbrev pair_at : ℕ → CodePair
  pair_at n = record { code = act.code; rule = n }

  -- a rule of the client and the code has a pair
  paired : (n : ℕ) (r : Rule) → slice_get rules n ≡ Some r → is_named client act.code r ≡ true → Contains pairs (pair_at n)
  paired n r here named = (of_client.exact (pair_at n)).1 (record {
    rule = r;
    here = here;
    has_client = first_so (takes r.clients (pos client)) (takes r.codes (pos act.code)) named;
    has_code = second_so (takes r.clients (pos client)) (takes r.codes (pos act.code)) named;
  })

  -- and the other way round
  named_of : (n : ℕ) (r : Rule) → slice_get rules n ≡ Some r → Contains pairs (pair_at n) → is_named client act.code r ≡ true
  named_of n r here has =
      let p = (of_client.exact (pair_at n)).0 has in
      let same : p.rule ≡ r = (let e : Some p.rule ≡ Some r = sym p.here ∙ here in cc) in
      subst (λ q. is_named client act.code q ≡ true) same (λ i. p.has_client i && p.has_code i)

  point_taken : (n : ℕ) (r : Rule) → slice_get rules n ≡ Some r → has_point r client act ≡ true → takes_point rules n act.point ≡ true
  point_taken n r here has = rw here (second_so (has_function r client act) (takes r.points (pos act.point)) has)

  named_point : (r : Rule) → has_point r client act ≡ true → is_named client act.code r ≡ true
  named_point r has = named client act r (first_so (has_function r client act) (takes r.points (pos act.point)) has)

  point_of_act : (r : Rule) → has_act r client act ≡ true → has_point r client act ≡ true
  point_of_act r has = first_so (has_point r client act) (takes_value r.values act.value) has

  abbrev Points : Rule → Bool
  Points r = is_allow r.action && has_point r client act

  module _ (none : HasTaker rules pairs act.code act.point act.point Nobody) where
    no_point : (n : ℕ) (r : Rule) → slice_get rules n ≡ Some r → has_point r client act ≡ true → ⊥
    no_point n r here has = false≢true (sym (none n act.point (paired n r here (named_point r has)) (omega arith) (omega arith)) ∙ point_taken n r here has)

    pub nobody_decides : verdict_of asset client act ≡ verdict.Refuse decider.Default (default_reason rules client act)
    nobody_decides = default_is asset client act
        (⊎_elim (λ q. absurd (no_point q.0 q.1 q.2.here (point_of_act q.1 q.2.passes))) (λ e. e) (cases rules client act))

    pub nobody_points : false ≡ list_any Points rules
    nobody_points = ⊎_elim
        (λ h. let a = Any-from_list_any Points rules h in
        absurd (no_point a.0 a.1 (slice_get-get_or rules a.0 a.1 a.2 ∙ ap Some a.3) (second_so (is_allow a.1.action) (has_point a.1 client act) a.4)))
        (λ h. sym h)
        (cases_Bool (list_any Points rules))

  module _ (n : ℕ) (only : HasTaker rules pairs act.code act.point act.point (Only n)) where
    only_rule : (k : ℕ) (r : Rule) → slice_get rules k ≡ Some r → has_point r client act ≡ true → k ≡ n
    only_rule k r here has = only.1 k act.point (paired k r here (named_point r has)) (omega arith) (omega arith) (point_taken k r here has)

    -- the rule of the place, which names the client and the code
    rule : (r : Rule) × (slice_get rules n ≡ Some r) × (is_named client act.code r ≡ true)
    rule = let p = (of_client.exact (pair_at n)).0 only.0 in (p.rule, p.here, λ i. p.has_client i && p.has_code i)

    value_same : (k : ℕ) (r : Rule) → k ≡ n → slice_get rules k ≡ Some r → has_act r client act ≡ true → rule_at rules n (λ r. has_group_to_value r act) ≡ true
    value_same k r e here has =
        let at : slice_get rules n ≡ Some r = ap (slice_get rules) (sym e) ∙ here in
        rw at (value_is client act r (named_point r (point_of_act r has)) ∙ has)

    pub only_decides : (why : Reason) → rule_at rules n (λ r. has_group_to_value r act) ≡ true → verdict_of asset client act ≡ decided (numbered rules n) why
    only_decides why has =
        let r = rule.0 in
        let at : slice_get rules n ≡ Some r = rule.1 in
        let own : rule_at rules n (λ r. has_group_to_value r act) ≡ has_group_to_value r act = rw at refl in
        let says : decided (numbered rules n) why ≡ by_rule n r r.action = rw at refl in
        verdict_is asset client act n r (record {
          here = at;
          passes = sym (value_is client act r rule.2) ∙ sym own ∙ has;
          before = λ k y lt there. ⊎_elim
              (λ yes. absurd (let e = only_rule k y there (point_of_act y yes) in omega (arith, e, lt)))
              (λ no. no)
              (cases_Bool (has_act y client act));
        })
        ∙ sym says

    pub only_default : rule_at rules n (λ r. has_group_to_value r act) ≡ false → verdict_of asset client act ≡ verdict.Refuse decider.Default (default_reason rules client act)
    only_default lacks = default_is asset client act
        (⊎_elim
        (λ q. absurd (false≢true (sym lacks ∙ value_same q.0 q.1 (only_rule q.0 q.1 q.2.here (point_of_act q.1 q.2.passes)) q.2.here q.2.passes)))
        (λ e. e)
        (cases rules client act))

    pub only_points : rule_at rules n (λ r. is_allow r.action && has_group_and_point r act) ≡ list_any Points rules
    only_points = both_ways (rule_at rules n (λ r. is_allow r.action && has_group_and_point r act)) (list_any Points rules)
        (λ h. let r = rule.0 in
        let at : slice_get rules n ≡ Some r = rule.1 in
        let own : rule_at rules n (λ r. is_allow r.action && has_group_and_point r act) ≡ (is_allow r.action && has_group_and_point r act) = rw at refl in
        let passes : Points r ≡ true = (λ i. is_allow r.action && sym (point_is client act r rule.2) i) ∙ sym own ∙ h in
        list_any-from_Any Points rules (n, r, slice_get_within rules n r at, get_or_from_slice_get rules n r r at, passes))
        (λ h. let a = Any-from_list_any Points rules h in
        let here : slice_get rules a.0 ≡ Some a.1 = slice_get-get_or rules a.0 a.1 a.2 ∙ ap Some a.3 in
        let has : has_point a.1 client act ≡ true = second_so (is_allow a.1.action) (has_point a.1 client act) a.4 in
        let e : a.0 ≡ n = only_rule a.0 a.1 here has in
        let at : slice_get rules n ≡ Some a.1 = ap (slice_get rules) (sym e) ∙ here in
        rw at ((λ i. is_allow a.1.action && point_is client act a.1 (named_point a.1 has) i) ∙ a.4))

    -- what is said, told by the rule of the place alone and by whether some allow rule has the group
    pub only_says : verdict_of asset client act ≡ says_of rules n (list_any (λ r. is_allow r.action && has_function r client act) rules)
        (rule_at rules n (λ r. has_group_to_value r act)) (rule_at rules n (λ r. is_allow r.action && has_group_and_point r act))
    only_says =
        let group = list_any (λ r. is_allow r.action && has_function r client act) rules in
        let point = rule_at rules n (λ r. is_allow r.action && has_group_and_point r act) in
        let has = rule_at rules n (λ r. has_group_to_value r act) in
        ⊎_elim
        (λ yes. only_decides reason.Value yes ∙ ap (λ b. says_of rules n group b point) (sym yes))
        (λ no. only_default no ∙ (λ i. verdict.Refuse decider.Default (if not group then reason.Function else if not (sym only_points i) then reason.Point else reason.Value))
        ∙ ap (λ b. says_of rules n group b point) (sym no))
        (cases_Bool has)

pub narrow : (rules : List Rule) (pairs : List CodePair) (code first last point : ℕ) (taker : Taker) → HasTaker rules pairs code first last taker → first ≤ point → point ≤ last
    → HasTaker rules pairs code point point taker
narrow rules pairs code first last point Nobody none from to = λ rule p has low high. none rule p has (omega (arith, from, low)) (omega (arith, to, high))
narrow rules pairs code first last point (Only n) only from to = (only.0, λ rule p has low high. only.1 rule p has (omega (arith, from, low)) (omega (arith, to, high)))
narrow rules pairs code first last point Unknown h from to = tt

module _ (asset : Asset) (client : ℕ) (act : Act) (pairs : List CodePair) (of_client : ArePairsOf asset client pairs) (until : ℕ) (ordered : act.point ≤ until) where
  pub nobody_run : (v : Verdict) → HasTaker asset.rules pairs act.code act.point until Nobody → v ≡ verdict.Refuse decider.Default (default_reason asset.rules client act)
      → HasOneVerdict asset client act until v
  nobody_run v none is = λ point from to.
      let there = narrow asset.rules pairs act.code act.point until point Nobody none from to in
      let here = narrow asset.rules pairs act.code act.point until act.point Nobody none (omega arith) ordered in
      let points = sym (nobody_points asset client (at_point act point) pairs of_client there) ∙ nobody_points asset client act pairs of_client here in
      nobody_decides asset client (at_point act point) pairs of_client there
      ∙ (λ i. verdict.Refuse decider.Default (if not (list_any (λ r. is_allow r.action && has_function r client act) asset.rules) then reason.Function
      else if not (points i) then reason.Point
      else reason.Value))
      ∙ sym is

  pub only_run : (n last : ℕ) (v : Verdict) → last ≤ until → act.point ≤ last → HasTaker asset.rules pairs act.code act.point until (Only n)
      → IsSteady (λ p. takes_point asset.rules n p) act.point last → v ≡ verdict_of asset client act → HasOneVerdict asset client act last v
  only_run n last v less some only steady is = λ point from to.
      let other = at_point act point in
      let there = narrow asset.rules pairs act.code act.point until point (Only n) only from (omega (arith, less, to)) in
      let here = narrow asset.rules pairs act.code act.point until act.point (Only n) only (omega arith) ordered in
      let o = slice_get asset.rules n in
      let keeps = steady point from to in
      only_says asset client other pairs of_client n there
      ∙ (λ i. says_of asset.rules n (list_any (λ r. is_allow r.action && has_function r client act) asset.rules) (value_at act point o keeps i) (point_at act point o keeps i))
      ∙ sym (only_says asset client act pairs of_client n here)
      ∙ sym is
