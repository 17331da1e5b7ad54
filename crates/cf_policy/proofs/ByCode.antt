-- Rules that are found by their pairs: the first that has an act, and whether one allows it, as among all rules.
use Rattle.std.proofs.Common.{◌≡◌, ℕ, ◌<◌, ◌≤◌, ◌↔◌, pos, Bool, true, false, not, if◌then◌else◌, ◌&&◌, List, Option, length, get_or, Some, None, refl, sym, ap, subst, ◌∙◌, arith}
use Rattle.std.specs.Prelude.{AllPairs, slice_get, option_and_then}
use Rattle.std.specs.List.{Any, list_any, position}
use Rattle.std.specs.Cmp.{both_ways, first_so, second_so}
use Rattle.std.proofs.lemmas.Grind.{common_steps}
use Rattle.std.proofs.lemmas.Bool.{cases_lt, cases_Bool}
use Rattle.std.proofs.lemmas.Bool.Decides.{nat_tests}
use Rattle.std.proofs.lemmas.List.Folds.{Any-from_list_any, list_any-from_Any}
use Rattle.std.proofs.lemmas.List.Sums.{fails_before_first}
use Rattle.std.proofs.lemmas.Option.{slice_get_within, slice_get-get_or, get_or_from_slice_get}
use mathlib.Core.Logic.{⊎_elim}
use Rattle.cf_view.specs.declared.base.Act.{Act}
use Rattle.cf_policy.specs.declared.policy.Rule.{Rule}
use Rattle.cf_policy.specs.declared.policy.Asset.{Asset}
use Rattle.cf_policy.specs.declared.index.CodePair.{CodePair}
use Rattle.cf_policy.specs.Verdict.{takes, takes_value, numbered, has_act, has_point, has_function, is_allow, decided, verdict_of}
use Rattle.cf_view.specs.declared.base.Reason.TheVariants as reason
use Rattle.cf_policy.specs.Index.{ArePairsOf, IsPartOfCode, rule_at, has_group, has_group_and_point, has_group_to_value, verdict_by}
use Rattle.cf_policy.proofs.FirstPlace.{IsFirstAt, first_at, position_is}

other_default : {X : Type 0} (xs : List X) (k : ℕ) (d e : X) → k < length xs → get_or xs k d ≡ get_or xs k e
other_default xs k d e inside = get_or_from_slice_get xs k (get_or xs k e) d (slice_get-get_or xs k e inside)

none_passes : {X : Type 0} (p : X → Bool) (xs : List X) → position p xs ≡ None → (k : ℕ) (d : X) → k < length xs → p (get_or xs k d) ≡ false
none_passes p xs e k d inside = grind (arith, nat_tests, common_steps, fails_before_first, cases_lt)

-- the pairs stand for exactly the rules that the test names, in their order
pub record AreNamed (rules : List Rule) (named : Rule → Bool) (part : List CodePair) : Type 0 where
  pub ascending : AllPairs (λ p q. p.rule < q.rule) part
  pub exact : (n : ℕ) → Any (λ p. p.rule ≡ n) part ↔ ((r : Rule) × (slice_get rules n ≡ Some r) × (named r ≡ true))

module _ (rules : List Rule) (named : Rule → Bool) (part : List CodePair) (are : AreNamed rules named part) (q t : Rule → Bool) (only : (r : Rule) → q r ≡ true → named r ≡ true) (same : (r : Rule) → named r ≡ true → t r ≡ q r) where
  abbrev pub test : CodePair → Bool
  test p = rule_at rules p.rule t

  at_rule : (p : CodePair) (r : Rule) → slice_get rules p.rule ≡ Some r → named r ≡ true → test p ≡ q r
  at_rule p r here has = rw here (same r has)

  -- the rule of a pair
  rule_of : (k : ℕ) (p : CodePair) → k < length part → get_or part k p ≡ p → (r : Rule) × (slice_get rules p.rule ≡ Some r) × (named r ≡ true)
  rule_of k p inside at = (are.exact p.rule).0 (k, p, inside, at, refl)

  -- the pair of a rule that passes
  pair_of : (n : ℕ) (r : Rule) → slice_get rules n ≡ Some r → q r ≡ true → Any (λ p. (p.rule ≡ n) × (test p ≡ true)) part
  pair_of n r here passes =
      let a = (are.exact n).1 (r, here, only r passes) in
      (a.0, a.1, a.2, a.3, (a.4, at_rule a.1 r (ap (slice_get rules) a.4 ∙ here) (only r passes) ∙ passes))

  pub some_same : list_any test part ≡ list_any q rules
  some_same = both_ways (list_any test part) (list_any q rules)
      (λ h. let a = Any-from_list_any test part h in let r = rule_of a.0 a.1 a.2 a.3 in
      let passes : q r.0 ≡ true = sym (at_rule a.1 r.0 r.1 r.2) ∙ a.4 in
      list_any-from_Any q rules (a.1.rule, r.0, slice_get_within rules a.1.rule r.0 r.1, get_or_from_slice_get rules a.1.rule r.0 r.0 r.1, passes))
      (λ h. let a = Any-from_list_any q rules h in
      let b = pair_of a.0 a.1 (slice_get-get_or rules a.0 a.1 a.2 ∙ ap Some a.3) a.4 in
      list_any-from_Any test part (b.0, b.1, b.2, b.3, b.4.1))

  pub first_same : option_and_then (λ k. option_and_then (λ p. numbered rules p.rule) (slice_get part k)) (position test part) ≡ option_and_then (numbered rules) (position q rules)
  first_same = by (position test part) (position q rules) refl refl
    where
      first : (k : ℕ) (p : CodePair) → IsFirstAt test part k p → (r : Rule) × IsFirstAt q rules p.rule r
      first k p f =
          let inside = slice_get_within part k p f.here in
          let at : get_or part k p ≡ p = get_or_from_slice_get part k p p f.here in
          let r = rule_of k p inside at in (
            r.0,
            record {
              here = r.1;
              passes = sym (at_rule p r.0 r.1 r.2) ∙ f.passes;
              before = λ m y lt here. ⊎_elim
                  (λ passes. absurd (
                  let b = pair_of m y here passes in
                  ⊎_elim
                  (λ early. let no : true ≡ false = sym b.4.1 ∙ f.before b.0 b.1 early (slice_get-get_or part b.0 b.1 b.2 ∙ ap Some b.3) in cc)
                  (λ late. let no = subst (λ x. p.rule ≤ x.rule) b.3 (not_below k p at b.0 b.1 b.2 late) in omega (arith, lt, no, b.4.0))
                  (cases_lt b.0 k)))
                  (λ fails. fails)
                  (cases_Bool (q y));
            },
          )
        where
          not_below : (k : ℕ) (p : CodePair) → get_or part k p ≡ p → (j : ℕ) (d : CodePair) → j < length part → k ≤ j → p.rule ≤ (get_or part j d).rule
          not_below k p at j d inside late =
              ⊎_elim
              (λ more. let up = are.ascending k j d more inside in let here : get_or part k d ≡ p = other_default part k d p (omega (arith, more, inside)) ∙ at in
              let lt : p.rule < (get_or part j d).rule = subst (λ x. x.rule < (get_or part j d).rule) here up in omega (arith, lt))
              (λ less. let e : k ≡ j = omega (arith, less, late) in
              let here : get_or part j d ≡ p = other_default part j d p inside ∙ ap (λ n. get_or part n p) (sym e) ∙ at in
              let level : p.rule ≡ (get_or part j d).rule = ap (λ x. x.rule) (sym here) in omega (arith, level))
              (cases_lt k j)

      by : (a b : Option ℕ) → position test part ≡ a → position q rules ≡ b
          → option_and_then (λ k. option_and_then (λ p. numbered rules p.rule) (slice_get part k)) a ≡ option_and_then (numbered rules) b
      by None None e f = refl
      by None (Some n) e f =
          let r = first_at q rules n f in let b = pair_of n r.0 r.1.here r.1.passes in
          absurd (let no = none_passes test part e b.0 b.1 b.2 in let yes : test (get_or part b.0 b.1) ≡ true = ap test b.3 ∙ b.4.1 in let bad : true ≡ false = sym yes ∙ no in cc)
      by (Some k) b e f =
          let p = first_at test part k e in let r = first k p.0 p.1 in
          let m : b ≡ Some p.0.rule = sym f ∙ position_is q rules p.0.rule r.0 r.1 in
          rw (p.1.here, m) refl

-- the rule has the client and the code
abbrev pub is_named : ℕ → ℕ → Rule → Bool
is_named client code r = takes r.clients (pos client) && takes r.codes (pos code)

module _ (client : ℕ) (act : Act) (r : Rule) where
  pub named : has_function r client act ≡ true → is_named client act.code r ≡ true
  named h = grind (arith, common_steps, second_so, first_so)

  pub group_is : is_named client act.code r ≡ true → has_group r act ≡ has_function r client act
  group_is h = sym (λ i. first_so (takes r.clients (pos client)) (takes r.codes (pos act.code)) h i && (second_so (takes r.clients (pos client)) (takes r.codes (pos act.code)) h i && takes r.groups (pos act.group)))

  pub point_is : is_named client act.code r ≡ true → has_group_and_point r act ≡ has_point r client act
  point_is h = λ i. group_is h i && takes r.points (pos act.point)

  pub value_is : is_named client act.code r ≡ true → has_group_to_value r act ≡ has_act r client act
  value_is h = λ i. point_is h i && takes_value r.values act.value

  pub act_named : has_act r client act ≡ true → is_named client act.code r ≡ true
  act_named h = named (first_so (has_function r client act) (takes r.points (pos act.point)) (first_so (has_point r client act) (takes_value r.values act.value) h))

  pub group_named : (is_allow r.action && has_function r client act) ≡ true → is_named client act.code r ≡ true
  group_named h = named (second_so (is_allow r.action) (has_function r client act) h)

  pub point_named : (is_allow r.action && has_point r client act) ≡ true → is_named client act.code r ≡ true
  point_named h = named (first_so (has_function r client act) (takes r.points (pos act.point)) (second_so (is_allow r.action) (has_point r client act) h))

abbrev pair_at : ℕ → ℕ → CodePair
pair_at code n = record { code = code; rule = n }

-- the pairs of a code stand for the rules that have it and the client
pub are_named : (asset : Asset) (client code : ℕ) (pairs part : List CodePair) → ArePairsOf asset client pairs → IsPartOfCode code pairs part
    → AreNamed asset.rules (is_named client code) part
are_named asset client code pairs part index of_code = record {
  ascending = of_code.ascending;
  exact = λ n. (
    λ h. let p = (index.exact (pair_at code n)).0 ((of_code.exact n).0 h) in (p.rule, p.here, λ i. p.has_client i && p.has_code i),
    λ h. (of_code.exact n).1 ((index.exact (pair_at code n)).1 (record {
      rule = h.0;
      here = h.1;
      has_client = first_so (takes h.0.clients (pos client)) (takes h.0.codes (pos code)) h.2;
      has_code = second_so (takes h.0.clients (pos client)) (takes h.0.codes (pos code)) h.2;
    })),
  );
}

pub verdict_is : (asset : Asset) (client : ℕ) (act : Act) (pairs part : List CodePair) → ArePairsOf asset client pairs → IsPartOfCode act.code pairs part
    → verdict_by part asset.rules act ≡ verdict_of asset client act
verdict_is asset client act pairs part index of_code =
    let are = are_named asset client act.code pairs part index of_code in
    let first = first_same asset.rules (is_named client act.code) part are (λ r. has_act r client act) (λ r. has_group_to_value r act) (act_named client act) (value_is client act) in
    let group = some_same asset.rules (is_named client act.code) part are (λ r. is_allow r.action && has_function r client act) (λ r. is_allow r.action && has_group r act)
    (group_named client act) (λ r h i. is_allow r.action && group_is client act r h i) in
    let point = some_same asset.rules (is_named client act.code) part are (λ r. is_allow r.action && has_point r client act) (λ r. is_allow r.action && has_group_and_point r act)
    (point_named client act) (λ r h i. is_allow r.action && point_is client act r h i) in
    λ i. decided (first i) (if not (group i) then reason.Function else if not (point i) then reason.Point else reason.Value)
