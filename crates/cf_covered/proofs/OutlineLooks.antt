-- What a look at outlines finds is what a look at the rules would find.
use Rattle.std.proofs.Common.{◌≡◌, Bool, ℕ, ◌+◌, ◌<◌, ◌≤◌, ◌≤ℤ◌, ◌++◌, true, false, List, [], ◌∷◌, Some, None, take, length, get_or, cond, refl, sym, subst, ap, ◌∙◌, append-nil, length-take, arith}
use mathlib.Core.Logic.{⊎_elim}
use Rattle.std.specs.Prelude.{◌&&◌, position}
use Rattle.std.specs.List.{All, filter}
use Rattle.std.proofs.lemmas.Int.{ints}
use Rattle.std.proofs.lemmas.Bool.{true≢false, and_parts, cases_lt, false_from_ne_true}
use Rattle.std.proofs.lemmas.Bool.Decides.{nat_tests}
use Rattle.std.proofs.lemmas.List.Elements.{All-get_or, All-more, All-weaker, filter_more}
use Rattle.std.proofs.lemmas.List.Sums.{position_or_len_is}
use Rattle.std.proofs.lemmas.List.{get_or-map, length-map, take-map, take_all}
use Rattle.std.proofs.lemmas.List.Folds.{Any-from_list_any}
use Rattle.std.proofs.lemmas.List.Quantifiers.{position-Some}
use Rattle.std.proofs.lemmas.Option.{get_or_from_slice_get}
use Rattle.cf_policy.specs.declared.policy.Rule.{Rule}
use Rattle.cf_policy.specs.declared.policy.Span.{Span}
use Rattle.cf_policy.specs.Verdict.{covers}
use Rattle.cf_covered.specs.declared.including.Earlier.{Earlier}
use Rattle.cf_covered.specs.declared.including.Earlier.TheVariants.{Covering, Common}
use Rattle.cf_covered.specs.declared.outline.Outline.{Outline}
use Rattle.cf_covered.specs.declared.outline.TheConstants.{EVERY_NUMBER}
use Rattle.cf_covered.specs.Common.{have_common, lists_overlap, overlap, some_overlap}
use Rattle.cf_covered.specs.Including.{includes, includes_rule, is_inside, is_inside_some}
use Rattle.cf_covered.specs.Outlines.{HasHull, IsHull, IsTold, Tells, has_ends, rules_of}
use Rattle.cf_covered.proofs.Inclusion.{never_decides}

pub both_ends : (h k s : Span) → covers h s.low ≡ true → k.low ≤ℤ h.low → h.high ≤ℤ k.high → covers k s.high ≡ true → has_ends k s ≡ true
both_ends h k s low begins ends high = grind (arith, ints, nat_tests)

wider : (h k s : Span) → k.low ≤ℤ h.low → h.high ≤ℤ k.high → has_ends h s ≡ true → has_ends k s ≡ true
wider h k s begins ends a = grind (arith, ints, nat_tests)

-- both ends of one more span are inside where a wider one has them
pub one_more_inside : (spans : List Span) (i : ℕ) (d h k : Span) → i < length spans → All (λ s. has_ends h s ≡ true) (take i spans)
    → k.low ≤ℤ h.low → h.high ≤ℤ k.high → has_ends k (get_or spans i d) ≡ true → All (λ s. has_ends k s ≡ true) (take (i + 1) spans)
one_more_inside spans i d h k inside before begins ends here =
    All-more (λ s. has_ends k s ≡ true) spans i d inside
    (All-weaker (λ s. has_ends h s ≡ true) (λ s. has_ends k s ≡ true) (λ s a. wider h k s begins ends a) (take i spans) before)
    here

-- the wider one is no less within all numbers
pub still_within : (h k : Span) → k.low ≤ℤ h.low → h.high ≤ℤ k.high → overlap EVERY_NUMBER h ≡ true → overlap EVERY_NUMBER k ≡ true
still_within h k begins ends a = grind (arith, ints, nat_tests)

-- a span of the list has its ends inside what has all ends
at : (h s : Span) (spans : List Span) (k : ℕ) → k < length spans → get_or spans k s ≡ s → All (λ t. has_ends h t ≡ true) spans
    → has_ends h s ≡ true
at h s spans k within is all = subst (λ t. has_ends h t ≡ true) is (all k s within)

-- where two spans overlap, or one is inside the other, what has their ends overlaps
ends_met : (g h s t : Span) → has_ends g s ≡ true → has_ends h t ≡ true → overlap s t ≡ true → overlap g h ≡ true
ends_met g h s t one other both = grind (arith, ints, nat_tests)

ends_included : (g h s t : Span) → has_ends g s ≡ true → has_ends h t ≡ true → is_inside s t ≡ true → overlap g h ≡ true
ends_included g h s t one other both = grind (arith, ints, nat_tests)

every_met : (g h : Span) → g ≡ EVERY_NUMBER → overlap EVERY_NUMBER h ≡ true → (overlap g h ≡ true) × (overlap h g ≡ true)
every_met g h is within = rw is (within, grind (arith, within))

hulls_met : (a b : List Span) (g h : Span) → IsHull g a → IsHull h b → lists_overlap a b ≡ true → overlap g h ≡ true
hulls_met [] b g h one other both = (every_met g h (one.unstated refl) other.within).0
hulls_met (s ∷ ss) [] g h one other both = (every_met h g (other.unstated refl) one.within).1
hulls_met (s ∷ ss) (t ∷ ts) g h one other both =
    let x = Any-from_list_any (λ x. some_overlap (t ∷ ts) x) (s ∷ ss) both in
    let y = Any-from_list_any (λ y. overlap y x.1) (t ∷ ts) x.4 in
    let met : overlap h g ≡ true =
    ends_met h g y.1 x.1 (at h y.1 (t ∷ ts) y.0 y.2 y.3 other.stated) (at g x.1 (s ∷ ss) x.0 x.2 x.3 one.stated) y.4 in
    grind (arith, met)

hulls_included : (a b : List Span) (g h : Span) → IsHull g a → IsHull h b → includes a b ≡ true → overlap g h ≡ true
hulls_included [] b g h one other both = (every_met g h (one.unstated refl) other.within).0
hulls_included (s ∷ ss) [] g h one other both = (every_met h g (other.unstated refl) one.within).1
hulls_included (s ∷ ss) (t ∷ ts) g h one other both =
    let x = Any-from_list_any (λ o. is_inside o t) (s ∷ ss) (and_parts (is_inside_some (s ∷ ss) t) _ both).0 in
    ends_included g h x.1 t (at g x.1 (s ∷ ss) x.0 x.2 x.3 one.stated)
    (All-get_or (λ s. has_ends h s ≡ true) (t ∷ ts) 0 t (omega arith) other.stated) x.4

fourth : (a b c d e : Bool) → (a && (b && (c && (d && e)))) ≡ true → d ≡ true
fourth a b c d e all = grind arith

last : (a b c d e : Bool) → (a && (b && (c && (d && e)))) ≡ true → e ≡ true
last a b c d e all = grind arith

-- a rule whose hull is apart from another's neither includes it nor has something in common with it
pub apart : (p q : Outline) → HasHull p → HasHull q → overlap p.hull q.hull ≡ false
    → (includes_rule p.rule.now q.rule.now ≡ false) × (have_common p.rule.now q.rule.now ≡ false)
apart p q one other not =
    let a = p.rule.now in
    let b = q.rule.now in (
      false_from_ne_true _ (λ has. true≢false (sym (hulls_included a.points b.points p.hull q.hull one other
          (fourth (includes a.clients b.clients) (includes a.codes b.codes) (includes a.groups b.groups) (includes a.points b.points) _ has)) ∙ not)),
      false_from_ne_true _ (λ has. true≢false (sym (hulls_met a.points b.points p.hull q.hull one other
          (last (lists_overlap a.clients b.clients) (lists_overlap a.codes b.codes) (lists_overlap a.groups b.groups) _ _ has)) ∙ not)),
    )

-- of so many rules none includes this one, and these may have something in common with it
pub record Looked (rules : List Rule) (rule : Rule) (i : ℕ) (found : List Rule) : Type 0 where
  pub passed : (k : ℕ) → k < i → includes_rule (get_or rules k rule) rule ≡ false
  pub common : found ≡ filter (λ r. have_common r rule) (take i rules)

-- the rule of an outline
rule_at : (outlines : List Outline) (i : ℕ) (o : Outline) (d : Rule) → i < length outlines → o ≡ get_or outlines i o
    → get_or (rules_of outlines) i d ≡ o.rule.now
rule_at outlines i o d inside is = get_or-map (λ p. p.rule.now) outlines i o d inside ∙ ap (λ p. p.rule.now) (sym is)

one_more : (P : ℕ → Type 0) (n : ℕ) → ((k : ℕ) → k < n → P k) → P n → (k : ℕ) → k < n + 1 → P k
one_more P n below here k lt = ⊎_elim (λ early. below k early) (λ late. subst P (omega (arith, late, lt)) here) (cases_lt k n)

-- the next rule does not include it
pub one_more_looked : (outlines : List Outline) (rule : Rule) (i : ℕ) (o : Outline) (found : List Rule) → i < length outlines
    → o ≡ get_or outlines i o → includes_rule o.rule.now rule ≡ false → Looked (rules_of outlines) rule i found
    → Looked (rules_of outlines) rule (i + 1) (found ++ filter (λ r. have_common r rule) (o.rule.now ∷ []))
one_more_looked outlines rule i o found inside is not so =
    let rules = rules_of outlines in
    let here = rule_at outlines i o rule inside is in
    let long = length-map outlines (λ p. p.rule.now) in
    record {
      passed = one_more (λ k. includes_rule (get_or rules k rule) rule ≡ false) i so.passed (rw here not);
      common = ap (λ f. f ++ filter (λ r. have_common r rule) (o.rule.now ∷ [])) so.common
          ∙ sym (filter_more (λ r. have_common r rule) rules i rule (omega (arith, inside, long))
          ∙ ap (λ r. filter (λ q. have_common q rule) (take i rules) ++ cond (have_common r rule) (r ∷ []) []) here);
    }

-- nor has something in common with it
pub one_more_apart : (outlines : List Outline) (p q : Outline) (i : ℕ) (found : List Rule) → i < length outlines → p ≡ get_or outlines i p
    → HasHull p → HasHull q → overlap p.hull q.hull ≡ false → Looked (rules_of outlines) q.rule.now i found
    → Looked (rules_of outlines) q.rule.now (i + 1) found
one_more_apart outlines p q i found inside is one other not so =
    let neither = apart p q one other not in
    subst (Looked (rules_of outlines) q.rule.now (i + 1))
    (ap (λ b. found ++ cond b (p.rule.now ∷ []) []) neither.1 ∙ append-nil found)
    (one_more_looked outlines q.rule.now i p found inside is neither.0 so)

-- the first that includes it
pub first_told : (outlines : List Outline) (rule : Rule) (i : ℕ) (o : Outline) (found : List Rule) → i < length outlines
    → o ≡ get_or outlines i o → includes_rule o.rule.now rule ≡ true → Looked (rules_of outlines) rule i found
    → position (λ r. includes_rule r rule) (rules_of outlines) ≡ Some i
first_told outlines rule i o found inside is has so =
    let long = length-map outlines (λ p. p.rule.now) in
    let here = position_or_len_is (λ r. includes_rule r rule) (rules_of outlines) i rule (omega (arith, inside, long)) so.passed
    (λ _. rw (rule_at outlines i o rule inside is) has) in
    grind (arith, nat_tests)

-- none does
pub none_told : (outlines : List Outline) (rule : Rule) (i : ℕ) (found : List Rule) → length outlines ≤ i
    → Looked (rules_of outlines) rule i found
    → (position (λ r. includes_rule r rule) (rules_of outlines) ≡ None) × (found ≡ filter (λ r. have_common r rule) (rules_of outlines))
none_told outlines rule i found all so =
    let rules = rules_of outlines in
    let end : length rules ≤ i = omega (arith, all, length-map outlines (λ p. p.rule.now)) in
    let passed = position_or_len_is (λ r. includes_rule r rule) rules (length rules) rule (omega arith)
    (λ k early. so.passed k (omega (arith, end, early))) (λ none. absurd (omega (arith, none))) in
    (grind (arith, nat_tests), so.common ∙ ap (filter (λ r. have_common r rule)) (take_all i rules end))

-- the outline of a number has its hull
pub hull_at : (outlines : List Outline) (number : ℕ) (o : Outline) → number < length outlines → o ≡ get_or outlines number o
    → All HasHull outlines → HasHull o
hull_at outlines number o inside is all = subst HasHull (sym is) (All-get_or HasHull outlines number o inside all)

-- what a look at the outlines before one tells is so of the rules before it
pub told_before : (outlines : List Outline) (number : ℕ) (o : Outline) (earlier : Earlier) → number < length outlines
    → o ≡ get_or outlines number o → Tells (rules_of (take number outlines)) o.rule.now earlier → IsTold (rules_of outlines) number earlier
told_before outlines number o earlier inside is tells =
    told (rules_of outlines) number o.rule.now earlier (omega (arith, inside, length-map outlines (λ p. p.rule.now)))
    (rule_at outlines number o o.rule.now inside is)
    (subst (λ rs. Tells rs o.rule.now earlier) (sym (take-map (λ p. p.rule.now) number outlines)) tells)
  where
    told : (rules : List Rule) (number : ℕ) (own : Rule) (earlier : Earlier) → number < length rules → get_or rules number own ≡ own
        → Tells (take number rules) own earlier → IsTold rules number earlier
    told rules number own (Covering first) inside is tells =
        let place = position-Some (λ r. includes_rule r own) (take number rules) first own tells in (
          omega (arith, place.0, length-take number rules),
          never_decides rules number own (Some first) inside (sym is) (sym tells),
          λ rule there. rw (sym (get_or_from_slice_get rules number rule own there) ∙ is) tells,
        )
    told rules number own (Common others) inside is tells =
        λ rule there.
        subst (λ r. Tells (take number rules) r (Common others)) (sym is ∙ get_or_from_slice_get rules number rule own there) tells
