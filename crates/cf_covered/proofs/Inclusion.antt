-- A rule that an earlier one includes has no act that the earlier one has not.
use Rattle.std.proofs.Common.{◌≡◌, ◌≢◌, ℕ, ◌<◌, ℤ, pos, Bool, true, false, List, [], ◌∷◌, length, take, get_or, slice_get, Option, Some, None, IfSome, length-take, refl, sym, subst, ap, ◌∙◌, arith}
use Rattle.std.specs.List.{list_any, list_all, position}
use Rattle.std.proofs.lemmas.Int.{ints}
use Rattle.std.proofs.lemmas.Bool.{true≢false, and_parts}
use Rattle.std.proofs.lemmas.Bool.Decides.{nat_tests}
use Rattle.std.proofs.lemmas.List.{get_or-take}
use Rattle.std.proofs.lemmas.List.Folds.{list_any_at, list_any_none}
use Rattle.std.proofs.lemmas.List.Quantifiers.{position-Some}
use Rattle.std.proofs.lemmas.Option.{slice_get-get_or, get_or_from_slice_get}
use Rattle.cf_view.specs.declared.base.Act.{Act}
use Rattle.cf_policy.specs.declared.policy.Rule.{Rule}
use Rattle.cf_policy.specs.declared.policy.Span.{Span}
use Rattle.cf_policy.specs.Verdict.{covers, takes, takes_value, has_act}
use Rattle.cf_covered.specs.Including.{NeverDecides, includes, includes_rule, is_inside_some}
use Rattle.cf_covered.proofs.RegionActs.{has_each, has_from}

in_some : (outers : List Span) (i : Span) (n : ℤ) → is_inside_some outers i ≡ true → covers i n ≡ true → list_any (λ s. covers s n) outers ≡ true
in_some [] i n a b = grind arith
in_some (o ∷ os) i n a b = let more = in_some os i n in grind (arith, ints, nat_tests)

in_all : (outers inners : List Span) (n : ℤ) → list_all (is_inside_some outers) inners ≡ true → list_any (λ s. covers s n) inners ≡ true
    → list_any (λ s. covers s n) outers ≡ true
in_all outers [] n a b = grind arith
in_all outers (i ∷ is) n a b = let here = in_some outers i n in let more = in_all outers is n in grind arith

taken : (outers inners : List Span) (n : ℤ) → includes outers inners ≡ true → takes inners n ≡ true → takes outers n ≡ true
taken [] inners n a b = refl
taken (o ∷ os) [] n a b = grind arith
taken (o ∷ os) (i ∷ is) n a b = in_all (o ∷ os) (i ∷ is) n a b

value_taken : (outers inners : List Span) (v : Option ℤ) → includes outers inners ≡ true → takes_value inners v ≡ true → takes_value outers v ≡ true
value_taken [] inners v a b = refl
value_taken (o ∷ os) [] v a b = grind arith
value_taken (o ∷ os) (i ∷ is) None a b = b
value_taken (o ∷ os) (i ∷ is) (Some n) a b = in_all (o ∷ os) (i ∷ is) n a b

act_had : (a b : Rule) (client : ℕ) (act : Act) → includes_rule a b ≡ true → has_act b client act ≡ true → has_act a client act ≡ true
act_had a b client act included has =
    let clients = and_parts (includes a.clients b.clients) _ included in
    let codes = and_parts (includes a.codes b.codes) _ clients.1 in
    let groups = and_parts (includes a.groups b.groups) _ codes.1 in
    let points = and_parts (includes a.points b.points) (includes a.values b.values) groups.1 in
    let each = has_each b client act has in
    has_from a client act (record {
      clients = taken a.clients b.clients (pos client) clients.0 each.clients;
      codes = taken a.codes b.codes (pos act.code) codes.0 each.codes;
      groups = taken a.groups b.groups (pos act.group) groups.0 each.groups;
      points = taken a.points b.points (pos act.point) points.0 each.points;
      values = value_taken a.values b.values act.value points.1 each.values;
    })

-- where some rule before it passes whenever a rule passes, that rule is not the first that passes
pub not_first : (p : Rule → Bool) (rules : List Rule) (number : ℕ) (rule : Rule) → slice_get rules number ≡ Some rule
    → (p rule ≡ true → list_any p (take number rules) ≡ true) → position p rules ≢ Some number
not_first p rules number rule here earlier first =
    let at = position-Some p rules number rule first in
    let none : list_any p (take number rules) ≡ false = list_any_none p (take number rules) (λ k d lt.
    let early : k < number = omega (arith, lt, length-take number rules) in
    rw (get_or-take number rules k d early) ((position-Some p rules number d first).2 k early)) in
    true≢false (sym (earlier (subst (λ r. p r ≡ true) (get_or_from_slice_get rules number rule rule here) at.1)) ∙ none)

-- the rule of a number never decides where a rule before it includes it
pub never_decides : (rules : List Rule) (number : ℕ) (r : Rule) (found : Option ℕ) → number < length rules → r ≡ get_or rules number r
    → found ≡ position (λ q. includes_rule q r) (take number rules) → IfSome found (λ _. NeverDecides rules number)
never_decides rules number r None inside is e = tt
never_decides rules number r (Some k) inside is e = λ client act.
    let early = position-Some (λ q. includes_rule q r) (take number rules) k r (sym e) in
    not_first (λ q. has_act q client act) rules number r (slice_get-get_or rules number r inside ∙ ap Some (sym is))
    (λ has. list_any_at (λ q. has_act q client act) (take number rules) k r early.0 (act_had (get_or (take number rules) k r) r client act early.1 has))
