-- The pairs of a code that stand at the front of a list, and the first of them that passes a test.
use Rattle.std.proofs.Common.{◌≡◌, ◌≢◌, ℕ, ◌<◌, ◌≤◌, eqb, Bool, true, false, not, List, Option, length, take, Some, None, refl, sym, ap, subst, ◌∙◌, arith}
use Rattle.std.specs.Prelude.{slice_get}
use Rattle.std.specs.List.{position, position_or_len}
use Rattle.std.proofs.lemmas.Bool.{cases_lt, eq-eqb, false≢true}
use Rattle.std.proofs.lemmas.Bool.Decides.{nat_tests}
use Rattle.std.proofs.lemmas.List.Sums.{fails_before_first, passes_at_first, prefix_len-le-length}
use Rattle.std.proofs.lemmas.List.{get_or-take, length-take}
use Rattle.std.proofs.lemmas.Option.{slice_get_cases, slice_get_past, slice_get_within, slice_get-get_or, get_or_from_slice_get}
use mathlib.Core.Logic.{⊎_elim}
use Rattle.cf_policy.specs.declared.index.CodePair.{CodePair}
use Rattle.cf_policy.specs.declared.policy.Rule.{Rule}
use Rattle.cf_policy.specs.declared.policy.Verdict.{Verdict}
use Rattle.cf_policy.specs.declared.policy.Verdict.TheVariants as verdict
use Rattle.cf_policy.specs.declared.policy.Decider.TheVariants as decider
use Rattle.cf_view.specs.declared.base.Act.{Act}
use Rattle.cf_view.specs.declared.base.Reason.{Reason}
use Rattle.cf_policy.specs.Verdict.{decided, numbered}
use Rattle.cf_policy.specs.Index.{IsFrontOf, rule_at, has_group_to_value, reason_of_pairs, verdict_by}
use Rattle.cf_policy.proofs.FirstPlace.{IsFirstAt, first_at, position_is}
use Rattle.std.proofs.lemmas.Grind.{common_steps}

-- what stands below a count stands in as many elements from the front
taken : {X : Type 0} (count : ℕ) (xs : List X) (k : ℕ) (x : X) → k < count → slice_get xs k ≡ Some x → slice_get (take count xs) k ≡ Some x
taken count xs k x lt at =
    grind (arith, common_steps, slice_get_within xs k x at, length-take count xs, get_or-take count xs k x lt, get_or_from_slice_get xs k x x at, slice_get-get_or)

-- and the other way round
from_taken : {X : Type 0} (count : ℕ) (xs : List X) (k : ℕ) (x : X) → slice_get (take count xs) k ≡ Some x → (k < count) × (slice_get xs k ≡ Some x)
from_taken count xs k x at =
    grind (arith, common_steps, slice_get_within (take count xs) k x at, length-take count xs, get_or_from_slice_get (take count xs) k x x at, slice_get-get_or, get_or-take)

module _ (code : ℕ) (rest : List CodePair) (test : CodePair → Bool) (i : ℕ)
    (before : (k : ℕ) (p : CodePair) → k < i → slice_get rest k ≡ Some p → (p.code ≡ code) × (test p ≡ false)) where
  -- the pair that ends the front is not among those before
  not_earlier : (count : ℕ) → IsFrontOf code rest count → i ≤ length rest → count < i → ⊥
  not_earlier count f inside lt =
      ⊎_elim
      (λ found. f.ends found.0 found.2 (before count found.0 lt found.2).0)
      (λ beyond. omega (arith, beyond.0, inside, lt))
      (slice_get_cases rest count).1

  -- a pair of the code that passes, of which none before passes
  pub found_at : (count : ℕ) (p : CodePair) → IsFrontOf code rest count → slice_get rest i ≡ Some p → p.code ≡ code → test p ≡ true → IsFirstAt test (take count rest) i p
  found_at count p f at same passes =
      let within = slice_get_within rest i p at in
      let lt : i < count = ⊎_elim (λ lt. lt)
      (λ from. absurd (⊎_elim (λ early. not_earlier count f (omega (arith, within)) early)
      (λ late. let e : i ≡ count = omega (arith, from, late) in f.ends p (ap (slice_get rest) (sym e) ∙ at) same)
      (cases_lt count i)))
      (cases_lt i count) in
      record {
        here = taken count rest i p lt at;
        passes = passes;
        before = λ k y less there. (before k y less (from_taken count rest k y there).1).1;
      }

  -- the place at which another code stands, or nothing, is where the front ends
  pub ended_at : (count : ℕ) → IsFrontOf code rest count → i ≤ length rest → ((p : CodePair) → slice_get rest i ≡ Some p → p.code ≢ code) → count ≡ i
  ended_at count f inside other =
      ⊎_elim
      (λ early. absurd (not_earlier count f inside early))
      (λ late. ⊎_elim
      (λ more. absurd (⊎_elim
      (λ found. other found.0 found.2 (f.same i found.0 more found.2))
      (λ beyond. omega (arith, beyond.0, f.inside, more))
      (slice_get_cases rest i).1))
      (λ less. omega (arith, late, less))
      (cases_lt i count))
      (cases_lt count i)

  none_by : (o : Option ℕ) → position test (take i rest) ≡ o → o ≡ None
  none_by None e = refl
  none_by (Some n) e = grind (arith, common_steps, first_at, from_taken, false≢true)

  -- and none before it passes
  pub none_before : position test (take i rest) ≡ None
  none_before = none_by (position test (take i rest)) refl

-- a place whose rule passes a test is one of the rules
pub is_rule : (rules : List Rule) (n : ℕ) (t : Rule → Bool) → rule_at rules n t ≡ true → n < length rules
is_rule rules n t passes = grind (arith, common_steps, slice_get_within, false≢true, slice_get_past, slice_get_cases)

module _ (rest : List CodePair) (rules : List Rule) (act : Act) (i : ℕ) (inside : i ≤ length rest)
    (before : (k : ℕ) (p : CodePair) → k < i → slice_get rest k ≡ Some p → (p.code ≡ act.code) × (rule_at rules p.rule (λ r. has_group_to_value r act) ≡ false)) where
  abbrev test : CodePair → Bool
  test p = rule_at rules p.rule (λ r. has_group_to_value r act)

  -- the rule that has the act decides
  pub verdict_found : (count : ℕ) (p : CodePair) (v : Verdict) → IsFrontOf act.code rest count → slice_get rest i ≡ Some p → p.code ≡ act.code → test p ≡ true
      → ((why : Reason) → v ≡ decided (numbered rules p.rule) why) → v ≡ verdict_by (take count rest) rules act
  verdict_found count p v front at same passes says =
      grind (arith, common_steps, found_at act.code rest test i before count p front at same passes, position_is)

  -- where none has it, the default does
  pub verdict_ended : (count : ℕ) (why : Reason) → IsFrontOf act.code rest count → ((p : CodePair) → slice_get rest i ≡ Some p → p.code ≢ act.code)
      → why ≡ reason_of_pairs (take i rest) rules act → verdict.Refuse decider.Default why ≡ verdict_by (take count rest) rules act
  verdict_ended count why front other is =
      grind (arith, common_steps, none_before act.code rest test i before, ended_at act.code rest test i before count front inside other)

is_code : (code : ℕ) (p : CodePair) → not (eqb p.code code) ≡ false → p.code ≡ code
is_code code p e = grind (arith, nat_tests)

other_code : (code : ℕ) (p : CodePair) → p.code ≡ code → not (eqb p.code code) ≡ false
other_code code p e = ap not (eq-eqb p.code code e)

-- what a place holds is known
pub not_other : {X : Type 0} (o : Option X) (x y : X) → o ≡ Some x → o ≡ Some y → x ≡ y
not_other o x y a b = cc

pub not_none : {X : Type 0} (o : Option X) (x : X) → o ≡ None → o ≡ Some x → ⊥
not_none o x a b = cc

-- how many pairs of a code stand at the front
pub front_of : (code : ℕ) (rest : List CodePair) → (count : ℕ) × IsFrontOf code rest count
front_of code rest =
    let other : CodePair → Bool = λ p. not (eqb p.code code) in
    let n = position_or_len other rest in (
      n,
      record {
        inside = prefix_len-le-length (λ p. not (other p)) rest;
        same = λ k p lt at. is_code code p (subst (λ q. other q ≡ false) (get_or_from_slice_get rest k p p at) (fails_before_first other rest k p lt));
        ends = λ p at e. false≢true (sym (other_code code p e) ∙ subst (λ q. other q ≡ true) (get_or_from_slice_get rest n p p at) (passes_at_first other rest p (slice_get_within rest n p at)));
      },
    )
