-- How the list of pairs of an index comes about: one rule after another, then sorted, each once.
use Rattle.std.proofs.Common.{◌≡◌, ℕ, ◌+◌, ◌<◌, ◌≤◌, ◌⊎◌, ◌↔◌, pos, Bool, true, false, ℤ, ◌||◌, ◌&&◌, ◌==◌, List, [], ◌∷◌, ◌++◌, length, take, get_or, Some, slice_get, refl, sym, ap, subst, ◌∙◌, inl, inr, arith}
use Rattle.std.proofs.lemmas.Int.{ints}
use Rattle.std.proofs.Math.Bool.{or-true}
use Rattle.std.proofs.lemmas.Bool.{or_cases, cases_lt}
use Rattle.std.proofs.lemmas.List.Elements.{Contains-push, Contains-push_cases, Contains-append_left}
use Rattle.std.proofs.lemmas.List.Folds.{list_any_more, list_any_kept}
use mathlib.Core.Logic.{⊎_elim}
use Rattle.std.specs.Prelude.{Contains}
use Rattle.std.specs.List.{list_any, dedup}
use Rattle.std.specs.List.Sorted.{IsSorted, IsPermutation, IsStrictlySortedBy}
use Rattle.std.specs.Cmp.{IsTotalOrder, IsEquivalence, first_so, second_so, then_total, on_total, nat_cmp_total, nat_cmp_is, and_equiv, on_equiv, nat_eq_equiv, both_tied, unsigned_ties}
use Rattle.std.proofs.lemmas.Bool.{eqb-true}
use Rattle.std.proofs.lemmas.List.Sorted.{Contains-permutation, IsPermutation-sym}
use Rattle.std.proofs.lemmas.List.Kept.{IsStrictlySortedBy-dedup, Contains-dedup, Contains-from_dedup}
use Rattle.std.proofs.lemmas.Map.Keys.{Less-from_sorted}
use Rattle.std.proofs.lemmas.Option.{slice_get_within}
use Rattle.std.specs.declared.cmp.Ordering.{Ordering}
use Rattle.std.specs.Ordering.{nat_cmp, ordering_then, eq_by_cmp}
use Rattle.std.specs.declared.cmp.Ordering.TheVariants.{Less, Equal, Greater}
use Rattle.cf_policy.specs.declared.policy.Span.{Span}
use Rattle.cf_policy.specs.declared.policy.Rule.{Rule}
use Rattle.cf_policy.specs.declared.policy.Asset.{Asset}
use Rattle.cf_policy.specs.declared.index.CodePair.{CodePair}
use Rattle.cf_policy.specs.Verdict.{covers, takes}
use Rattle.cf_policy.specs.Index.{IsPairBefore, ArePairsOf, AddsCodes, HasPairsBelow}
use Rattle.std.proofs.lemmas.Grind.{common_steps}

-- the pairs of this place and of the codes of some spans come to the pairs before
abbrev pub AddsSome : ℕ → List Span → List CodePair → List CodePair → Type 0
AddsSome place spans before after =
    (pair : CodePair) → Contains after pair ↔ (Contains before pair ⊎ ((pair.rule ≡ place) × (list_any (λ s. covers s (pos pair.code)) spans ≡ true)))

one_number : (s : Span) (n : ℕ) → s.low ≡ s.high → s.low ≡ pos n → covers s (pos n) ≡ true
one_number s n e at = grind (arith, ints)

number_of : (s : Span) (n : ℕ) → s.low ≡ s.high → covers s (pos n) ≡ true → s.low ≡ pos n
number_of s n e h = grind (arith, ints, common_steps, first_so, second_so)

pos_same : (m n : ℕ) → pos m ≡ pos n → m ≡ n
pos_same m n e = cc

same_pair : (p q : CodePair) → p.code ≡ q.code → p.rule ≡ q.rule → p ≡ q
same_pair p q e f = λ i. record { code = e i; rule = f i }

module _ (place : ℕ) (spans : List Span) (i : ℕ) (d : Span) (before after : List CodePair) (p : CodePair) where
  abbrev s : Span
  s = get_or spans i d

  pub added_more : i < length spans → s.low ≡ s.high → p.rule ≡ place → s.low ≡ pos p.code
      → AddsSome place (take i spans) before after → AddsSome place (take (i + 1) spans) before (after ++ p ∷ [])
  added_more inside single here code so_far pair =
      let test : Span → Bool = λ t. covers t (pos pair.code) in
      let more : list_any test (take (i + 1) spans) ≡ (list_any test (take i spans) || test s) =
      list_any_more test spans i d inside in (
        λ h. ⊎_elim
            (λ old. ⊎_elim
            (λ b. inl b)
            (λ q. inr (q.0, list_any_kept test spans i q.1))
            ((so_far pair).0 old))
            (λ e. inr (
              ap (λ q. q.rule) (sym e) ∙ here,
              more ∙ ap (λ b. list_any test (take i spans) || b) (one_number s pair.code single (code ∙ ap (λ q. pos q.code) e)) ∙ or-true _,
            ))
            (Contains-push_cases after p pair h),
        λ h. ⊎_elim
            (λ b. Contains-append_left after (p ∷ []) pair ((so_far pair).1 (inl b)))
            (λ q. ⊎_elim
            (λ early. Contains-append_left after (p ∷ []) pair ((so_far pair).1 (inr (q.0, early))))
            (λ now. subst (Contains (after ++ p ∷ [])) (same_pair p pair (pos_same p.code pair.code (sym code ∙ number_of s pair.code single now)) (here ∙ sym q.0)) (Contains-push after p))
            (or_cases (list_any test (take i spans)) (test s) (sym more ∙ q.1)))
            h,
      )

-- all spans of a rule that states codes
pub added_all : (place : ℕ) (rule : Rule) (before after : List CodePair) → 1 ≤ length rule.codes
    → AddsSome place rule.codes before after → AddsCodes place rule before after
added_all place rule before after some all pair =
    let same : takes rule.codes (pos pair.code) ≡ list_any (λ s. covers s (pos pair.code)) rule.codes = takes_any rule.codes (pos pair.code) some in (
      λ h. ⊎_elim (λ b. inl b) (λ q. inr (q.0, same ∙ q.1)) ((all pair).0 h),
      λ h. (all pair).1 (⊎_elim (λ b. inl b) (λ q. inr (q.0, sym same ∙ q.1)) h),
    )
  where
    takes_any : (spans : List Span) (n : ℤ) → 1 ≤ length spans → takes spans n ≡ list_any (λ s. covers s n) spans
    takes_any [] n some = absurd (omega (arith, some))
    takes_any (s ∷ ss) n some = refl

pub below_none : (rules : List Rule) (client : ℕ) → HasPairsBelow 0 rules client []
below_none rules client pair = (λ h. absurd (omega (arith, h.1)), λ h. absurd (omega (arith, h.0)))

below_or_at : (k n : ℕ) → k < n + 1 → (k < n) ⊎ (k ≡ n)
below_or_at k n lt = ⊎_elim (λ below. inl below) (λ beyond. inr (omega arith)) (cases_lt k n)

module _ (rules : List Rule) (client n : ℕ) (r : Rule) (here : slice_get rules n ≡ Some r) where
  -- the rule at this place is the one that a pair of this place has
  same_rule : (pair : CodePair) → pair.rule ≡ n → (q : Rule) → slice_get rules pair.rule ≡ Some q → q ≡ r
  same_rule pair e q at = let s : Some q ≡ Some r = sym at ∙ ap (slice_get rules) e ∙ here in cc

  pub below_more : (before after : List CodePair) → takes r.clients (pos client) ≡ true → AddsCodes n r before after
      → HasPairsBelow n rules client before → HasPairsBelow (n + 1) rules client after
  below_more before after has adds so_far pair = (
    λ h. ⊎_elim
        (λ old. let q = (so_far pair).0 old in (omega (arith, q.0), q.1))
        (λ q. (omega (arith, q.0), record { rule = r; here = ap (slice_get rules) q.0 ∙ here; has_client = has; has_code = q.1 }))
        ((adds pair).0 h),
    λ h. (adds pair).1 (⊎_elim
        (λ lt. inl ((so_far pair).1 (lt, h.1)))
        (λ e. inr (e, subst (λ q. takes q.codes (pos pair.code) ≡ true) (same_rule pair e h.1.rule h.1.here) h.1.has_code))
        (below_or_at pair.rule n h.0)),
  )

  pub below_skipped : (pairs : List CodePair) → takes r.clients (pos client) ≡ false
      → HasPairsBelow n rules client pairs → HasPairsBelow (n + 1) rules client pairs
  below_skipped pairs lacks so_far pair = (
    λ h. let q = (so_far pair).0 h in (omega (arith, q.0), q.1),
    λ h. ⊎_elim
        (λ lt. (so_far pair).1 (lt, h.1))
        (λ e. let no : true ≡ false = sym (subst (λ q. takes q.clients (pos client) ≡ true) (same_rule pair e h.1.rule h.1.here) h.1.has_client) ∙ lacks in absurd (cc no))
        (below_or_at pair.rule n h.0),
  )

-- a lower code, or the same code and an earlier rule, as the derived order answers it
abbrev pub pair_cmp : CodePair → CodePair → Ordering
pair_cmp p q = ordering_then (nat_cmp p.code q.code) (nat_cmp p.rule q.rule)

pub pair_cmp_total : IsTotalOrder pair_cmp
pair_cmp_total = then_total (on_total (λ p. p.code) nat_cmp_total) (on_total (λ p. p.rule) nat_cmp_total)

-- both parts are the same, as the derived test answers it
abbrev pub is_same_pair : CodePair → CodePair → Bool
is_same_pair p q = (p.code == q.code) && (p.rule == q.rule)

greater : (m n : ℕ) → n < m → nat_cmp m n ≡ Greater
greater m n lt = sym (nat_cmp_is m n Greater lt)

equal : (m n : ℕ) → m ≡ n → nat_cmp m n ≡ Equal
equal m n e = sym (nat_cmp_is m n Equal e)

not_less : (o : Ordering) → o ≡ Greater → o ≡ Less → ⊥
not_less o e f = absurd (cc (e, f))

less_is : (m n : ℕ) → nat_cmp m n ≡ Less → m < n
less_is m n e = grind (arith, common_steps, not_less, greater, equal, cases_lt)

before_less : (p q : CodePair) → pair_cmp p q ≡ Less → IsPairBefore p q
before_less p q e = grind (arith, common_steps, not_less, greater, less_is, equal, cases_lt)

same_pair_ties : (p q : CodePair) → is_same_pair p q ≡ eq_by_cmp pair_cmp p q
same_pair_ties p q = both_tied (p.code == q.code) (p.rule == q.rule) (nat_cmp p.code q.code) (nat_cmp p.rule q.rule) (unsigned_ties p.code q.code) (unsigned_ties p.rule q.rule)

same_pair_equiv : IsEquivalence is_same_pair
same_pair_equiv = and_equiv (on_equiv (λ p. p.code) nat_eq_equiv) (on_equiv (λ p. p.rule) nat_eq_equiv)

same_pair_is : (p q : CodePair) → is_same_pair p q ≡ true → p ≡ q
same_pair_is p q h = same_pair p q (eqb-true p.code q.code (first_so (p.code == q.code) (p.rule == q.rule) h)) (eqb-true p.rule q.rule (second_so (p.code == q.code) (p.rule == q.rule) h))

-- the pairs of all rules, sorted, and each once
pub index_of : (asset : Asset) (client : ℕ) (found sorted once : List CodePair) → HasPairsBelow (length asset.rules) asset.rules client found
    → IsPermutation found sorted → IsSorted pair_cmp sorted → once ≡ dedup is_same_pair sorted → ArePairsOf asset client once
index_of asset client found sorted once has moved up e =
    let strict : IsStrictlySortedBy pair_cmp (dedup is_same_pair sorted) = IsStrictlySortedBy-dedup pair_cmp_total same_pair_ties sorted up in
    subst (ArePairsOf asset client) (sym e) (record {
      ascending = λ i j d lt inside. before_less _ _ (Less-from_sorted pair_cmp (dedup is_same_pair sorted) i j d strict lt inside);
      exact = λ pair. (
        λ h. ((has pair).0 (Contains-permutation sorted found pair (IsPermutation-sym found sorted moved) (Contains-from_dedup is_same_pair sorted pair h))).1,
        λ h. Contains-dedup same_pair_equiv same_pair_is sorted pair (Contains-permutation found sorted pair moved ((has pair).1 (slice_get_within asset.rules pair.rule h.rule h.here, h))),
      );
    })
