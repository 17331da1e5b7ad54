-- Acts that differ in the point alone: where the points of each rule have all points or none, the verdict is one.
use Rattle.std.proofs.Common.{◌≡◌, ℕ, ◌+◌, ◌<◌, ◌≤◌, take, ◌||◌, ◌&&◌, pos, ℤ, Bool, true, false, not, if◌then◌else◌, List, [], ◌∷◌, Option, Some, None, length, get_or, refl, sym, ap, subst, ◌∙◌, arith}
use Rattle.std.specs.Prelude.{All, IfSome, is_some, slice_get, position, option_and_then}
use Rattle.std.specs.List.{list_any, list_all}
use Rattle.std.specs.Cmp.{first_so}
use Rattle.std.specs.Option.{option_map_or}
use Rattle.std.proofs.lemmas.List.Folds.{list_any_at}
use Rattle.std.proofs.lemmas.List.Sums.{AllPass-from_list_all}
use Rattle.std.proofs.lemmas.List.{get_or-take, length-take-le}
use Rattle.std.proofs.lemmas.List.Elements.{All-tail, All-get_or, All-more}
use Rattle.std.proofs.lemmas.Option.{get_or_from_slice_get, slice_get_within}
use Rattle.cf_view.specs.declared.base.Act.{Act}
use Rattle.cf_view.specs.declared.base.Reason.TheVariants as reason
use Rattle.cf_policy.specs.declared.policy.Rule.{Rule}
use Rattle.cf_policy.specs.declared.policy.Span.{Span}
use Rattle.cf_policy.specs.declared.policy.Asset.{Asset}
use Rattle.cf_policy.specs.declared.index.CodePair.{CodePair}
use Rattle.cf_policy.specs.Index.{tried, rule_at, has_group, has_group_and_point, has_group_to_value, verdict_by, ArePairsOf, IsPartOfCode}
use Rattle.cf_policy.specs.Run.{at_point, with_value, HasOneVerdict, IsSteady, TakesAnyValue, some_states_values}
use Rattle.cf_policy.specs.Verdict.{takes, takes_value, is_empty, covers, is_allow, decided, numbered}
use Rattle.cf_policy.proofs.ByCode.{are_named, is_named, some_same, verdict_is}
use Rattle.cf_policy.proofs.FirstPlace.{first_at, position_is, within_of}
use Rattle.std.proofs.lemmas.Grind.{common_steps}

module _ {X : Type 0} (p q : X → Bool) where
  pub list_any_same : (xs : List X) → All (λ x. p x ≡ q x) xs → list_any p xs ≡ list_any q xs
  list_any_same [] h = refl
  list_any_same (x ∷ xs) h =
      let here : p x ≡ q x = All-get_or (λ y. p y ≡ q y) (x ∷ xs) 0 x (omega arith) h in
      let rest = list_any_same xs (All-tail (λ y. p y ≡ q y) x xs h) in
      λ i. here i || rest i

  moved : (xs : List X) → All (λ x. p x ≡ q x) xs → (n : ℕ) → position p xs ≡ Some n → position q xs ≡ Some n
  moved xs h n e =
      let f = first_at p xs n e in
      let same : (k : ℕ) (y : X) → slice_get xs k ≡ Some y → q y ≡ p y =
      λ k y at. subst (λ z. q z ≡ p z) (get_or_from_slice_get xs k y y at) (sym (All-get_or (λ z. p z ≡ q z) xs k y (slice_get_within xs k y at) h)) in
      position_is q xs n f.0 (record {
        here = f.1.here;
        passes = same n f.0 f.1.here ∙ f.1.passes;
        before = λ k y lt at. same k y at ∙ f.1.before k y lt at;
      })

module _ {X : Type 0} (p q : X → Bool) (xs : List X) (h : All (λ x. p x ≡ q x) xs) where
  back : All (λ x. q x ≡ p x) xs
  back k d lt = sym (h k d lt)

  pub position_same : position p xs ≡ position q xs
  position_same = grind (arith, common_steps, moved, back)

-- what is asked of a rule, if there is one
abbrev pub asked : (Rule → Bool) → Option Rule → Bool
asked test o = option_map_or test o false

module _ (act : Act) (point : ℕ) where
  abbrev pub other : Act
  other = at_point act point

  abbrev pub KeepsPoint : Option Rule → Type 0
  KeepsPoint o = asked (λ r. takes r.points (pos point)) o ≡ asked (λ r. takes r.points (pos act.point)) o

  pub point_at : (o : Option Rule) → KeepsPoint o
      → asked (λ r. is_allow r.action && has_group_and_point r other) o ≡ asked (λ r. is_allow r.action && has_group_and_point r act) o
  point_at None h = refl
  point_at (Some r) h = λ i. is_allow r.action && (has_group r act && h i)

  pub value_at : (o : Option Rule) → KeepsPoint o → asked (λ r. has_group_to_value r other) o ≡ asked (λ r. has_group_to_value r act) o
  value_at None h = refl
  value_at (Some r) h = λ i. (has_group r act && h i) && takes_value r.values act.value

  verdict_same : (rules : List Rule) (pairs : List CodePair) → All (λ p. KeepsPoint (slice_get rules p.rule)) pairs
      → verdict_by pairs rules other ≡ verdict_by pairs rules act
  verdict_same rules pairs h =
      let first = position_same (λ p. rule_at rules p.rule (λ r. has_group_to_value r other)) (λ p. rule_at rules p.rule (λ r. has_group_to_value r act)) pairs
      (λ k d lt. value_at (slice_get rules (get_or pairs k d).rule) (h k d lt)) in
      let points = list_any_same (λ p. rule_at rules p.rule (λ r. is_allow r.action && has_group_and_point r other)) (λ p. rule_at rules p.rule (λ r. is_allow r.action && has_group_and_point r act)) pairs
      (λ k d lt. point_at (slice_get rules (get_or pairs k d).rule) (h k d lt)) in
      λ i. decided (option_and_then (λ k. option_and_then (λ p. numbered rules p.rule) (slice_get pairs k)) (first i))
      (if not (list_any (λ p. rule_at rules p.rule (λ r. is_allow r.action && has_group r act)) pairs) then reason.Function
      else if not (points i) then reason.Point
      else reason.Value)

  rule_there : (test : Rule → Bool) (o : Option Rule) → asked test o ≡ true → (r : Rule) × (o ≡ Some r)
  rule_there test None e = cc
  rule_there test (Some r) e = (r, refl)

  -- up to the pair whose rule decides
  verdict_decided : (rules : List Rule) (pairs : List CodePair) (k : ℕ) → position (λ p. rule_at rules p.rule (λ r. has_group_to_value r act)) pairs ≡ Some k
      → All (λ p. KeepsPoint (slice_get rules p.rule)) (take (k + 1) pairs) → verdict_by pairs rules other ≡ verdict_by pairs rules act
  verdict_decided rules pairs k e h =
      let was : CodePair → Bool = λ p. rule_at rules p.rule (λ r. has_group_to_value r act) in
      let now : CodePair → Bool = λ p. rule_at rules p.rule (λ r. has_group_to_value r other) in
      let f = first_at was pairs k e in
      let within : k < length pairs = within_of was pairs k e in
      let same : (j : ℕ) (y : CodePair) → j ≤ k → slice_get pairs j ≡ Some y → now y ≡ was y =
      λ j y low at.
      let inside : j < length (take (k + 1) pairs) = omega (arith, length-take-le (k + 1) pairs (omega (arith, within)), low) in
      let here : get_or (take (k + 1) pairs) j y ≡ y = get_or-take (k + 1) pairs j y (omega (arith, low)) ∙ get_or_from_slice_get pairs j y y at in
      subst (λ p. now p ≡ was p) here (value_at (slice_get rules (get_or (take (k + 1) pairs) j y).rule) (h j y inside)) in
      let again : position now pairs ≡ Some k = position_is now pairs k f.0 (record {
        here = f.1.here;
        passes = same k f.0 (omega arith) f.1.here ∙ f.1.passes;
        before = λ j y lt at. same j y (omega (arith, lt)) at ∙ f.1.before j y lt at;
      }) in
      let r = rule_there (λ r. has_group_to_value r act) (slice_get rules f.0.rule) f.1.passes in
      rw (e, again, f.1.here, r.1) refl

-- the points of each pair's rule have all points from the first to the last or none
abbrev pub AreSteady : List Rule → (first last : ℕ) → List CodePair → Type 0
AreSteady rules first last pairs = All (λ p. IsSteady (λ n. rule_at rules p.rule (λ r. takes r.points (pos n))) first last) pairs

verdict_steady : (act : Act) (point : ℕ) (rules : List Rule) (part : List CodePair) (last : ℕ) (o : Option ℕ) → o ≡ position (λ p. rule_at rules p.rule (λ r. has_group_to_value r act)) part
    → AreSteady rules act.point last (tried o part) → act.point ≤ point → point ≤ last → verdict_by part rules (at_point act point) ≡ verdict_by part rules act
verdict_steady act point rules part last None e steady from to = verdict_same act point rules part (λ k d lt. steady k d lt point from to)
verdict_steady act point rules part last (Some n) e steady from to = verdict_decided act point rules part n (sym e) (λ k d lt. steady k d lt point from to)

pub one_verdict : (asset : Asset) (client : ℕ) (act : Act) (pairs part : List CodePair) (last : ℕ) (o : Option ℕ) → ArePairsOf asset client pairs → IsPartOfCode act.code pairs part
    → o ≡ position (λ p. rule_at asset.rules p.rule (λ r. has_group_to_value r act)) part
    → AreSteady asset.rules act.point last (tried o part) → HasOneVerdict asset client act last (verdict_by part asset.rules act)
one_verdict asset client act pairs part last o index of_code e steady = λ point from to.
    sym (verdict_is asset client (at_point act point) pairs part index of_code)
    ∙ verdict_steady act point asset.rules part last o e steady from to

-- the spans each have all points from the first to the last or none
abbrev pub SpansSteady : (first last : ℕ) → List Span → Type 0
SpansSteady first last spans = All (λ s. IsSteady (λ n. covers s (pos n)) first last) spans

pub takes_steady : (spans : List Span) (first last : ℕ) → SpansSteady first last spans → IsSteady (λ n. takes spans (pos n)) first last
takes_steady [] first last h point from to = refl
takes_steady (s ∷ ss) first last h point from to =
    list_any_same (λ t. covers t (pos point)) (λ t. covers t (pos first)) (s ∷ ss) (λ k d lt. h k d lt point from to)

pub spans_more : (spans : List Span) (i : ℕ) (d : Span) (first last next : ℕ) → i < length spans → next ≤ last → SpansSteady first last (take i spans)
    → IsSteady (λ n. covers (get_or spans i d) (pos n)) first next → SpansSteady first next (take (i + 1) spans)
spans_more spans i d first last next inside less h here =
    All-more (λ s. IsSteady (λ n. covers s (pos n)) first next) spans i d inside (λ k e lt point from to. h k e lt point from (omega (arith, less, to))) here

pub pairs_more : (rules : List Rule) (pairs : List CodePair) (i : ℕ) (d : CodePair) (first last next : ℕ) → i < length pairs → next ≤ last → AreSteady rules first last (take i pairs)
    → IsSteady (λ n. rule_at rules (get_or pairs i d).rule (λ r. takes r.points (pos n))) first next → AreSteady rules first next (take (i + 1) pairs)
pairs_more rules pairs i d first last next inside less h here =
    All-more (λ p. IsSteady (λ n. rule_at rules p.rule (λ r. takes r.points (pos n))) first next) pairs i d inside (λ k e lt point from to. h k e lt point from (omega (arith, less, to))) here

any_value : (spans : List Span) (v w : Option ℤ) → is_empty spans ≡ true → takes_value spans v ≡ takes_value spans w
any_value [] v w e = refl
any_value (s ∷ ss) v w e = cc

module _ (act : Act) (value : Option ℤ) where
  abbrev valued : Act
  valued = with_value act value

  free_at : (o : Option Rule) → option_map_or (λ r. is_empty r.values) o true ≡ true
      → asked (λ r. has_group_to_value r valued) o ≡ asked (λ r. has_group_to_value r act) o
  free_at None h = refl
  free_at (Some r) h = λ i. has_group_and_point r act && any_value r.values value act.value h i

  value_same : (rules : List Rule) (pairs : List CodePair) → All (λ p. option_map_or (λ r. is_empty r.values) (slice_get rules p.rule) true ≡ true) pairs
      → verdict_by pairs rules valued ≡ verdict_by pairs rules act
  value_same rules pairs h = grind (arith, common_steps, position_same, free_at)

pub any_value_taken : (asset : Asset) (client code : ℕ) (pairs part : List CodePair) → ArePairsOf asset client pairs → IsPartOfCode code pairs part
    → list_all (λ p. option_map_or (λ r. is_empty r.values) (slice_get asset.rules p.rule) true) part ≡ true → TakesAnyValue asset client code
any_value_taken asset client code pairs part index of_code all = λ act value same.
    let own : IsPartOfCode act.code pairs part = subst (λ n. IsPartOfCode n pairs part) (sym same) of_code in
    sym (verdict_is asset client (with_value act value) pairs part index own)
    ∙ value_same act value asset.rules part (AllPass-from_list_all (λ p. option_map_or (λ r. is_empty r.values) (slice_get asset.rules p.rule) true) part all)
    ∙ verdict_is asset client act pairs part index own

-- ---- whether values are stated

twice : (b : Bool) → b ≡ not (not b)
twice true = refl
twice false = refl

neither : (a b : Bool) → (not a && not b) ≡ not (a || b)
neither true b = refl
neither false b = refl

unstated : (o : Option Rule) → option_map_or (λ r. is_empty r.values) o true ≡ not (option_map_or (λ r. not (is_empty r.values)) o false)
unstated None = refl
unstated (Some r) = twice (is_empty r.values)

all_unstated : (rules : List Rule) (part : List CodePair) →
    list_all (λ p. option_map_or (λ r. is_empty r.values) (slice_get rules p.rule) true) part ≡ not (list_any (λ p. rule_at rules p.rule (λ r. not (is_empty r.values))) part)
all_unstated rules [] = refl
all_unstated rules (p ∷ ps) =
    (λ i. unstated (slice_get rules p.rule) i && all_unstated rules ps i)
    ∙ neither (rule_at rules p.rule (λ r. not (is_empty r.values))) (list_any (λ q. rule_at rules q.rule (λ r. not (is_empty r.values))) ps)

pub values_unstated : (asset : Asset) (client code : ℕ) (pairs part : List CodePair) → ArePairsOf asset client pairs → IsPartOfCode code pairs part →
    list_all (λ p. option_map_or (λ r. is_empty r.values) (slice_get asset.rules p.rule) true) part ≡ not (some_states_values asset client code)
values_unstated asset client code pairs part index of_code =
    all_unstated asset.rules part
    ∙ ap not (some_same asset.rules (is_named client code) part (are_named asset client code pairs part index of_code)
    (λ r. is_named client code r && not (is_empty r.values)) (λ r. not (is_empty r.values))
    (λ r h. first_so (is_named client code r) (not (is_empty r.values)) h)
    (λ r named. sym (λ i. named i && not (is_empty r.values))))

-- a list takes what one of its spans has
pub taken_at : (spans : List Span) (k : ℕ) (d : Span) (n : ℤ) → k < length spans → covers (get_or spans k d) n ≡ true → takes spans n ≡ true
taken_at [] k d n lt has = refl
taken_at (s ∷ ss) k d n lt has = list_any_at (λ t. covers t n) (s ∷ ss) k d lt has

-- one of the spans has the number, where the place of one is known
pub is_found : (spans : List Span) (n : ℤ) (o : Option ℕ) → is_some o ≡ true → IfSome o (λ k. k < length spans)
    → IfSome o (λ k. (d : Span) → covers (get_or spans k d) n ≡ true) → list_any (λ s. covers s n) spans ≡ true
is_found spans n None some inside has = cc
is_found spans n (Some k) some inside has =
    let d : Span = record { low = pos 0; high = pos 0 } in
    list_any_at (λ s. covers s n) spans k d inside (has d)

-- where one of the spans has all points from the first to the last
pub cover_steady : (spans : List Span) (k : ℕ) (d : Span) (first last : ℕ) → k < length spans → covers (get_or spans k d) (pos first) ≡ true
    → IsSteady (λ n. covers (get_or spans k d) (pos n)) first last → IsSteady (λ n. takes spans (pos n)) first last
cover_steady spans k d first last lt has steady = λ point from to.
    taken_at spans k d (pos point) lt (steady point from to ∙ has) ∙ sym (taken_at spans k d (pos first) lt has)
