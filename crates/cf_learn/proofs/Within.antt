-- Learned rules are within the limits of a policy.
use Rattle.std.proofs.Common.{◌≡◌, ◌≢◌, ℕ, ◌+◌, ◌^◌, ◌%◌, ◌<◌, ◌≤◌, zero, suc, ℤ, pos, ◌≤ℤ◌, true, false, nat_le, ◌&&◌, List, [], ◌∷◌, ◌++◌, length, get_or, decimal, Option, Some, None, refl, sym, ap, subst, ◌∙◌, arith}
use Rattle.std.specs.Prelude.{All, AllPairs, IfSome}
use Rattle.std.specs.List.{AllByRecursion, list_all}
use Rattle.std.proofs.lemmas.Int.{ints}
use Rattle.std.proofs.lemmas.Bool.{and_from}
use Rattle.std.proofs.lemmas.Bool.Decides.{nat_tests}
use Rattle.std.proofs.lemmas.Fmt.{decimal_by_steps, decimal_injective, length-decimal-le}
use Rattle.std.proofs.lemmas.Grind.{common_steps}
use Rattle.std.proofs.lemmas.List.{length-append}
use Rattle.std.proofs.lemmas.List.Elements.{All-cons, All-from_recursion, All-nil, All-push, recursion_from_All}
use Rattle.std.proofs.lemmas.List.Folds.{list_all-append}
use Rattle.std.proofs.lemmas.List.Sorted.{All-permutation}
use Rattle.cf_policy.specs.declared.Rule.{Rule}
use Rattle.cf_policy.specs.Names.{is_name, is_name_byte, is_reserved}
use Rattle.cf_policy.specs.Within.{IsSpanWithin, AreSpansWithin, IsRuleWithin, AreRulesWithin, highest_address, highest_code, highest_group, highest_point, lowest_value, highest_value, most_spans, most_rules, rated_count}
use Rattle.cf_learn.specs.declared.seen.Kind.{Kind}
use Rattle.cf_learn.specs.declared.seen.Seen.{Seen}
use Rattle.cf_learn.specs.declared.runs.Run.{Run}
use Rattle.cf_learn.specs.Seen.{IsSeenWithin}
use Rattle.cf_learn.specs.Rules.{runs_of, run_of, is_next, longer_run, span_of, Part, goes_in, longer_part, part_of, parts_of, whole_span, value_spans, rule_name, rule_of, numbered_rules, AreLearnedFrom}
use Rattle.cf_learn.proofs.Gathered.{right_all_gathered}

record IsKindWithin (k : Kind) : Type 0 where
  address : pos k.client ≤ℤ highest_address
  code : pos k.code ≤ℤ highest_code
  group : pos k.group ≤ℤ highest_group
  value : IfSome k.value (λ n. (lowest_value ≤ℤ n) × (n ≤ℤ highest_value))

record IsRunWithin (run : Run) : Type 0 where
  kind : IsKindWithin run.kind
  ordered : run.low ≤ run.high
  below : pos run.high ≤ℤ highest_point

record IsPartWithin (part : Part) : Type 0 where
  kind : IsKindWithin part.kind
  count : length part.points ≤ most_spans
  points : All (IsSpanWithin (pos 0) highest_point) part.points

run_starts : (s : Seen) → IsSeenWithin s → IsRunWithin (run_of s)
run_starts s h = record { kind = record { address = h.address; code = h.code; group = h.group; value = h.value }; ordered = omega arith; below = h.point }

run_goes_on : (run : Run) (s : Seen) → IsRunWithin run → IsSeenWithin s → is_next run s ≡ true → IsRunWithin (longer_run run s)
run_goes_on run s h w e = record {
  kind = h.kind;
  ordered = let le = h.ordered in grind (arith, nat_tests, e);
  below = w.point;
}

span_within : (run : Run) → IsRunWithin run → IsSpanWithin (pos 0) highest_point (span_of run)
span_within run h = record { above = let z = h.ordered in omega (arith, ints); ordered = let le = h.ordered in omega (arith, ints, le); below = h.below }

part_starts : (run : Run) → IsRunWithin run → IsPartWithin (part_of run)
part_starts run h = record {
  kind = h.kind;
  count = omega arith;
  points = All-cons (IsSpanWithin (pos 0) highest_point) (span_of run) [] (span_within run h) (All-nil _);
}

part_goes_on : (part : Part) (run : Run) → IsPartWithin part → IsRunWithin run → goes_in part run ≡ true → IsPartWithin (longer_part part run)
part_goes_on part run h w e = record {
  kind = h.kind;
  count = let lt : length part.points < 64 = grind (arith, nat_tests, e) in omega (arith, lt, length-append part.points (span_of run ∷ []));
  points = All-push (IsSpanWithin (pos 0) highest_point) part.points (span_of run) h.points (span_within run w);
}

-- names
digits_of_names : (n : ℕ) → n < 2 ^ 64 → list_all is_name_byte (decimal n) ≡ true
digits_of_names n small = decimal_by_steps (λ n ds. list_all is_name_byte ds ≡ true) one more n small
  where
    digit : (d : ℕ) → d < 10 → is_name_byte (48 + d) ≡ true
    digit d lt = grind (arith, nat_tests, common_steps)

    one : (n : ℕ) → n < 10 → list_all is_name_byte ((48 + n) ∷ []) ≡ true
    one n lt = ap (λ b. b && true) (digit n lt)

    more : (n : ℕ) (ds : List ℕ) → 10 ≤ n → list_all is_name_byte ds ≡ true → list_all is_name_byte (ds ++ ((48 + n % 10) ∷ [])) ≡ true
    more n ds le h =
        list_all-append is_name_byte ds ((48 + n % 10) ∷ [])
        ∙ and_from (list_all is_name_byte ds) (list_all is_name_byte ((48 + n % 10) ∷ [])) h (ap (λ b. b && true) (digit (n % 10) (omega arith)))

name_within : (n : ℕ) → n < 10000 → is_name (rule_name n) ≡ true
name_within n small =
    let len : length (decimal n) ≤ 4 = length-decimal-le 4 n (omega arith) (omega (arith, small)) (omega (arith, small)) in
    let short : nat_le (suc (length (decimal n))) 32 ≡ true = grind (arith, nat_tests) in
    and_from (nat_le (suc (length (decimal n))) 32) (list_all is_name_byte (decimal n)) short (digits_of_names n (omega (arith, small)))

name_own : (n : ℕ) → is_reserved (rule_name n) ≡ false
name_own n = refl

one_span : (low high n : ℤ) → low ≤ℤ n → n ≤ℤ high → AreSpansWithin low high (whole_span n ∷ [])
one_span low high n above below = record {
  count = omega arith;
  each = All-cons (IsSpanWithin low high) (whole_span n) [] (record { above = above; ordered = omega (arith, ints); below = below }) (All-nil _);
}

values_within : (v : Option ℤ) → IfSome v (λ n. (lowest_value ≤ℤ n) × (n ≤ℤ highest_value)) → AreSpansWithin lowest_value highest_value (value_spans v)
values_within None h = record { count = omega arith; each = All-nil _ }
values_within (Some n) h = one_span lowest_value highest_value n h.0 h.1

rule_within : (n : ℕ) (part : Part) → n < 10000 → IsPartWithin part → IsRuleWithin (rule_of n part)
rule_within n part small h =
    let k = part.kind in
    record {
      name = name_within n small;
      own = name_own n;
      clients = one_span (pos 0) highest_address (pos k.client) (omega (arith, ints)) h.kind.address;
      codes = one_span (pos 0) highest_code (pos k.code) (omega (arith, ints)) h.kind.code;
      single_codes = All-from_recursion (λ s. s.low ≡ s.high) (whole_span (pos k.code) ∷ []) (refl, tt);
      some_code = omega arith;
      groups = one_span (pos 0) highest_group (pos k.group) (omega (arith, ints)) h.kind.group;
      points = record { count = h.count; each = h.points };
      values = values_within k.value h.kind.value;
      rate = tt;
      log = tt;
    }

numbered_within : (n : ℕ) (parts : List Part) → n + length parts < 10000 → AllByRecursion IsPartWithin parts → AllByRecursion IsRuleWithin (numbered_rules n parts)
unfolding numbered_rules
numbered_within n [] small all = tt
numbered_within n (part ∷ parts) small all = (rule_within (n + 1) part (omega (arith, small)) all.0, numbered_within (n + 1) parts (omega (arith, small)) all.1)

numbered_length : (n : ℕ) (parts : List Part) → length (numbered_rules n parts) ≡ length parts
unfolding numbered_rules
numbered_length n [] = refl
numbered_length n (part ∷ parts) = ap suc (numbered_length (n + 1) parts)

none_rated : (n : ℕ) (parts : List Part) → rated_count (numbered_rules n parts) ≡ 0
unfolding numbered_rules
none_rated n [] = refl
none_rated n (part ∷ parts) = none_rated (n + 1) parts

-- the name at a place
name_at : (n : ℕ) (parts : List Part) (i : ℕ) (d : Rule) → i < length parts → (get_or (numbered_rules n parts) i d).name ≡ rule_name (n + i + 1)
unfolding numbered_rules
name_at n [] i d lt = absurd (omega (arith, lt))
name_at n (part ∷ parts) zero d lt = ap rule_name (omega arith)
name_at n (part ∷ parts) (suc i) d lt = name_at (n + 1) parts i d (omega (arith, lt)) ∙ ap rule_name (omega arith)

names_differ : (parts : List Part) → length parts < 10000 → AllPairs (λ r s. r.name ≢ s.name) (numbered_rules 0 parts)
names_differ parts small i j d lt inside e =
    let size = numbered_length 0 parts in
    let j_in : j < length parts = omega (arith, inside, size) in
    let i_in : i < length parts = omega (arith, lt, j_in) in
    let same : 114 ∷ decimal (0 + i + 1) ≡ 114 ∷ decimal (0 + j + 1) = sym (name_at 0 parts i d i_in) ∙ (e ∙ name_at 0 parts j d j_in) in
    let digits : decimal (0 + i + 1) ≡ decimal (0 + j + 1) = cc same in
    let number = decimal_injective (0 + i + 1) (0 + j + 1) (omega (arith, i_in, small)) (omega (arith, j_in, small)) digits in
    omega (arith, lt, number)

pub rules_within : (seen : List Seen) (rules : List Rule) → AreLearnedFrom seen rules → length rules ≤ most_rules → All IsSeenWithin seen → AreRulesWithin rules
rules_within seen rules are few all =
    let sorted = are.sorted in
    let parts = parts_of (runs_of sorted) in
    let count : length parts ≤ 1024 = let e = numbered_length 0 parts in let f = ap length are.are in omega (arith, few, e, f) in
    let each = recursion_from_All IsSeenWithin sorted (All-permutation IsSeenWithin seen sorted are.same all) in
    let runs = right_all_gathered is_next longer_run run_of IsSeenWithin IsRunWithin run_starts run_goes_on sorted each in
    let held = right_all_gathered goes_in longer_part part_of IsRunWithin IsPartWithin part_starts part_goes_on (runs_of sorted) runs in
    subst AreRulesWithin (sym are.are) (record {
      count = let e = numbered_length 0 parts in omega (arith, count, e);
      each = All-from_recursion IsRuleWithin (numbered_rules 0 parts) (numbered_within 0 parts (omega (arith, count)) held);
      names = names_differ parts (omega (arith, count));
      rated = let none = none_rated 0 parts in omega (arith, none);
    })
