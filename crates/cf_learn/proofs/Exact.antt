-- The rules have exactly the acts for which something speaks that was seen.
use Rattle.std.proofs.Common.{◌≡◌, ℕ, ◌+◌, ◌≤◌, ◌⊎◌, ◌↔◌, inl, inr, zero, suc, ℤ, pos, Bool, true, false, ◌&&◌, ◌||◌, ◌==◌, List, [], ◌∷◌, ◌++◌, length, Option, Some, None, refl, sym, ap, subst, ◌∙◌, arith}
use mathlib.Core.Logic.{⊎_elim}
use Rattle.std.specs.Prelude.{Contains}
use Rattle.std.specs.List.{list_any}
use Rattle.std.specs.Option.{is_some}
use Rattle.std.specs.Ordering.{int_eq}
use Rattle.std.proofs.lemmas.Int.{ints}
use Rattle.std.proofs.lemmas.Bool.{false≢true, and_parts, cases_Bool, eq-eqb}
use Rattle.std.proofs.lemmas.Bool.Decides.{Decides-int_eq, nat_tests}
use Rattle.std.proofs.lemmas.List.Folds.{Any-from_list_any, list_any-from_Any, list_any-append}
use Rattle.std.proofs.lemmas.List.Sorted.{list_any-IsPermutation}
use Rattle.std.proofs.lemmas.List.{length-append}
use Rattle.std.proofs.lemmas.Map.Keys.{any_passes_from_place}
use Rattle.cf_view.specs.declared.Act.{Act}
use Rattle.cf_policy.specs.declared.Span.{Span}
use Rattle.cf_policy.specs.declared.Rule.{Rule}
use Rattle.cf_policy.specs.Verdict.{covers, takes, takes_value, has_act}
use Rattle.cf_policy.specs.Laws.{IsAllowedByRule, HasNoneBefore}
use Rattle.cf_learn.specs.declared.seen.Kind.{Kind}
use Rattle.cf_learn.specs.declared.seen.Seen.{Seen}
use Rattle.cf_learn.specs.declared.runs.Run.{Run}
use Rattle.cf_learn.specs.Seen.{seen_of, is_same_kind, is_same_value, SpeaksFor, IsSpokenFor, AllowsSeen}
use Rattle.cf_learn.specs.Rules.{runs_of, run_of, is_next, longer_run, span_of, Part, goes_in, longer_part, part_of, parts_of, whole_span, value_spans, rule_of, numbered_rules, learned_rules, AreLearnedFrom}
use Rattle.cf_learn.proofs.Gathered.{any_all_gathered}

abbrev value_takes : Option ℤ → Option ℤ → Bool
value_takes None w = true
value_takes (Some m) None = false
value_takes (Some m) (Some n) = int_eq m n

-- kinds that are tested as the same are the same
value_same : (v w : Option ℤ) → is_same_value v w ≡ true → v ≡ w
value_same None None h = refl
value_same None (Some n) h = absurd (false≢true h)
value_same (Some m) None h = absurd (false≢true h)
value_same (Some m) (Some n) h = ap Some ((Decides-int_eq m n).0 h)

pub kind_same : (a b : Kind) → is_same_kind a b ≡ true → a ≡ b
kind_same a b h =
    let client : a.client ≡ b.client = grind (arith, nat_tests) in
    let code : a.code ≡ b.code = grind (arith, nat_tests) in
    let group : a.group ≡ b.group = grind (arith, nat_tests) in
    let value : a.value ≡ b.value = value_same a.value b.value (grind arith) in
    λ i. record { client = client i; code = code i; group = group i; value = value i }

-- spans and numbers
covers_one : (m n : ℕ) → covers (record { low = pos m; high = pos m }) (pos n) ≡ (m == n)
covers_one m n = grind (arith, ints, nat_tests)

-- one more point at the end of a span
covers_more : (low high next n : ℕ) → low ≤ high → (next ≡ high) ⊎ (next ≡ high + 1)
    → covers (record { low = pos low; high = pos next }) (pos n) ≡ (covers (record { low = pos low; high = pos high }) (pos n) || (next == n))
covers_more low high next n le is = grind (arith, ints, nat_tests)

takes_one : (m n : ℕ) → takes (whole_span (pos m) ∷ []) (pos n) ≡ (m == n)
takes_one m n = let one = covers_one m n in grind arith

module _ (client : ℕ) (act : Act) where
  abbrev kind_takes : Kind → Bool
  kind_takes k = (k.client == client) && ((k.code == act.code) && ((k.group == act.group) && value_takes k.value act.value))

  abbrev seen_has : Seen → Bool
  seen_has s = kind_takes s.kind && (s.point == act.point)

  abbrev run_has : Run → Bool
  run_has run = kind_takes run.kind && covers (span_of run) (pos act.point)

  abbrev part_has : Part → Bool
  part_has part = kind_takes part.kind && takes part.points (pos act.point)

  run_begins : (s : Seen) → ((run_of s).low ≤ (run_of s).high) × (run_has (run_of s) ≡ seen_has s)
  run_begins s = (omega arith, ap (λ b. kind_takes s.kind && b) (covers_one s.point act.point))

  run_grows : (run : Run) (s : Seen) → run.low ≤ run.high → is_next run s ≡ true → ((longer_run run s).low ≤ (longer_run run s).high) × (run_has (longer_run run s) ≡ (run_has run || seen_has s))
  run_grows run s le h =
      let same = kind_same run.kind s.kind (and_parts (is_same_kind run.kind s.kind) _ h).0 in
      let is : (s.point ≡ run.high) ⊎ (s.point ≡ run.high + 1) = grind (arith, nat_tests) in
      let more = covers_more run.low run.high s.point act.point le is in
      (grind arith, rw (← same) (grind (arith, more)))

  part_begins : (run : Run) → (1 ≤ length (part_of run).points) × (part_has (part_of run) ≡ run_has run)
  part_begins run = (omega arith, grind arith)

  takes_more : (points : List Span) (s : Span) (n : ℤ) → 1 ≤ length points → takes (points ++ s ∷ []) n ≡ (takes points n || covers s n)
  takes_more [] s n some = absurd (omega (arith, some))
  takes_more (p ∷ points) s n some = let both = list_any-append (λ t. covers t n) (p ∷ points) (s ∷ []) in grind arith

  part_grows : (part : Part) (run : Run) → 1 ≤ length part.points → goes_in part run ≡ true → (1 ≤ length (longer_part part run).points) × (part_has (longer_part part run) ≡ (part_has part || run_has run))
  part_grows part run some h =
      let same = kind_same part.kind run.kind (and_parts (is_same_kind part.kind run.kind) _ h).0 in
      let more = takes_more part.points (span_of run) (pos act.point) some in
      (omega (arith, length-append part.points (span_of run ∷ [])), rw (← same) (grind (arith, more)))

  value_is : (v w : Option ℤ) → takes_value (value_spans v) w ≡ value_takes v w
  value_is None None = refl
  value_is None (Some n) = refl
  value_is (Some m) None = refl
  value_is (Some m) (Some n) = let tells = Decides-int_eq m n in grind (arith, ints, nat_tests)

  rule_has : (number : ℕ) (part : Part) → has_act (rule_of number part) client act ≡ part_has part
  rule_has number part =
      let client_is = takes_one part.kind.client client in
      let code_is = takes_one part.kind.code act.code in
      let group_is = takes_one part.kind.group act.group in
      let value = value_is part.kind.value act.value in
      grind arith

  abbrev has : Rule → Bool
  has r = has_act r client act

  any_numbered : (number : ℕ) (parts : List Part) → list_any has (numbered_rules number parts) ≡ list_any part_has parts
  unfolding numbered_rules
  any_numbered number [] = refl
  any_numbered number (part ∷ parts) = λ i. rule_has (number + 1) part i || any_numbered (number + 1) parts i

  any_learned : (seen : List Seen) → list_any has (learned_rules seen) ≡ list_any seen_has seen
  any_learned seen =
      any_numbered 0 (parts_of (runs_of seen))
      ∙ (any_all_gathered goes_in longer_part part_of part_has run_has (λ part. 1 ≤ length part.points) part_begins part_grows (runs_of seen)
      ∙ any_all_gathered is_next longer_run run_of run_has seen_has (λ run. run.low ≤ run.high) run_begins run_grows seen)

  -- a rule in front that does not have the act
  later : (r : Rule) (rules : List Rule) → has r ≡ false → IsAllowedByRule rules client act → IsAllowedByRule (r ∷ rules) client act
  later r rules lacks by = record {
    number = suc by.number;
    rule = by.rule;
    here = by.here;
    allows = by.allows;
    has = by.has;
    first = earlier;
  }
    where
      earlier : HasNoneBefore (suc by.number) (r ∷ rules) client act
      earlier zero q lt at = subst (λ x. has x ≡ false) (let e : r ≡ q = cc in e) lacks
      earlier (suc k) q lt at = by.first k q (omega arith) at

  -- learned rules all allow
  by_numbered : (number : ℕ) (parts : List Part) → list_any has (numbered_rules number parts) ≡ true → IsAllowedByRule (numbered_rules number parts) client act
  unfolding numbered_rules
  by_numbered number [] h = absurd (false≢true h)
  by_numbered number (part ∷ parts) h =
      ⊎_elim
      (λ yes. record {
        number = 0;
        rule = rule_of (number + 1) part;
        here = refl;
        allows = refl;
        has = yes;
        first = λ j q lt at. absurd (omega (arith, lt));
      })
      (λ lacks. later (rule_of (number + 1) part) (numbered_rules (number + 1) parts) lacks
      (by_numbered (number + 1) parts (sym (ap (λ b. b || list_any has (numbered_rules (number + 1) parts)) lacks) ∙ h)))
      (cases_Bool (has (rule_of (number + 1) part)))

  any_from : (rules : List Rule) → IsAllowedByRule rules client act → list_any has rules ≡ true
  any_from rules by = any_passes_from_place has rules by.number by.rule by.here by.has

  value_from : (v w : Option ℤ) → value_takes v w ≡ true → (v ≡ None) ⊎ (v ≡ w)
  value_from None w h = inl refl
  value_from (Some m) None h = absurd (false≢true h)
  value_from (Some m) (Some n) h = inr (ap Some ((Decides-int_eq m n).0 h))

  value_to : (v w : Option ℤ) → (v ≡ None) ⊎ (v ≡ w) → value_takes v w ≡ true
  value_to v w h = ⊎_elim (λ e. ap (λ x. value_takes x w) e) (λ e. ap (λ x. value_takes x w) e ∙ itself w) h
    where
      itself : (w : Option ℤ) → value_takes w w ≡ true
      itself None = refl
      itself (Some n) = (Decides-int_eq n n).1 refl

  speaks_from : (s : Seen) → seen_has s ≡ true → SpeaksFor s client act
  speaks_from s h = record {
    client_is = grind (arith, nat_tests);
    code = grind (arith, nat_tests);
    group = grind (arith, nat_tests);
    point = grind (arith, nat_tests);
    value = value_from s.kind.value act.value (grind arith);
  }

  speaks_to : (s : Seen) → SpeaksFor s client act → seen_has s ≡ true
  speaks_to s h i =
      (eq-eqb s.kind.client client h.client_is i && (eq-eqb s.kind.code act.code h.code i && (eq-eqb s.kind.group act.group h.group i && value_to s.kind.value act.value h.value i)))
      && eq-eqb s.point act.point h.point i

  spoken_from : (seen : List Seen) → list_any seen_has seen ≡ true → IsSpokenFor seen client act
  spoken_from seen h =
      let a = Any-from_list_any seen_has seen h in
      record { one = a.1; here = (a.0, a.2, a.3); speaks = speaks_from a.1 a.4 }

  spoken_to : (seen : List Seen) → IsSpokenFor seen client act → list_any seen_has seen ≡ true
  spoken_to seen h = list_any-from_Any seen_has seen (h.here.0, h.one, h.here.1, h.here.2, speaks_to h.one h.speaks)

  -- where code and group settle whether there is a value, what speaks for an act is the act
  is_itself : (s : Seen) → (s.kind.code ≡ act.code → s.kind.group ≡ act.group → is_some s.kind.value ≡ is_some act.value) → SpeaksFor s client act → s ≡ seen_of client act
  is_itself s settled h =
      let both : is_some s.kind.value ≡ is_some act.value = settled h.code h.group in
      let value : s.kind.value ≡ act.value = ⊎_elim (λ e. e ∙ sym (is_none act.value (sym both ∙ ap is_some e))) (λ e. e) h.value in
      λ i. record { kind = record { client = h.client_is i; code = h.code i; group = h.group i; value = value i }; point = h.point i }
    where
      is_none : (v : Option ℤ) → is_some v ≡ false → v ≡ None
      is_none None e = refl
      is_none (Some n) e = absurd (false≢true (sym e))

pub allows_seen : (seen : List Seen) (rules : List Rule) → AreLearnedFrom seen rules → AllowsSeen seen rules
allows_seen seen rules are =
    let spoken : (client : ℕ) (act : Act) → IsAllowedByRule rules client act ↔ IsSpokenFor seen client act = λ client act.
    let same : list_any (seen_has client act) seen ≡ list_any (seen_has client act) are.sorted = list_any-IsPermutation (seen_has client act) seen are.sorted are.same in
    let learned : list_any (has client act) rules ≡ list_any (seen_has client act) are.sorted = ap (list_any (has client act)) are.are ∙ any_learned client act are.sorted in (
      λ h. spoken_from client act seen (same ∙ (sym learned ∙ any_from client act rules h)),
      λ h. subst (λ l. IsAllowedByRule l client act) (sym are.are) (by_numbered client act 0 (parts_of (runs_of are.sorted))
          (any_learned client act are.sorted ∙ (sym same ∙ spoken_to client act seen h))),
    ) in
    record {
      spoken = spoken;
      exact = λ client act settled. (
        λ h. let s = (spoken client act).0 h in subst (Contains seen) (is_itself client act s.one (settled s.one s.here) s.speaks) s.here,
        λ h. (spoken client act).1 (record {
          one = seen_of client act;
          here = h;
          speaks = record { client_is = refl; code = refl; group = refl; point = refl; value = inr refl };
        }),
      );
    }
