-- Lists of corners: how they come about, and how many there are.
use Rattle.std.proofs.Common.{◌≡◌, ◌+◌, ◌*◌, ◌≤◌, ℤ, pos, ◌+ℤ◌, Bool, true, false, List, [], ◌∷◌, ◌++◌, map, length, refl, sym, ap, subst, ◌∙◌, arith, append_assoc}
use Rattle.std.specs.Prelude.{filter, flat_map, Contains, IsPermutation, IsSorted, Decides}
use Rattle.std.specs.Set.{is_member}
use Rattle.std.specs.List.{dedup}
use Rattle.std.specs.List.Sorted.{IsStrictlySortedBy}
use Rattle.std.specs.Ordering.{int_eq, int_cmp, eq_by_cmp}
use Rattle.std.specs.Cmp.{both_ways, int_ranks}
use Rattle.std.proofs.lemmas.Int.{ints}
use Rattle.std.proofs.lemmas.Cmp.{int_cmp_total, int_eq_equiv}
use Rattle.std.proofs.lemmas.Bool.{false≢true, or_left}
use Rattle.std.proofs.lemmas.Bool.Decides.{Decides-int_eq, nat_tests}
use Rattle.std.proofs.lemmas.List.Elements.{filter-append}
use Rattle.std.proofs.lemmas.List.Folds.{flat_map-map}
use Rattle.std.proofs.lemmas.List.Kept.{IsStrictlySortedBy-dedup, Contains-dedup, Contains-from_dedup}
use Rattle.std.proofs.lemmas.List.Sorted.{Contains-permutation, IsPermutation-sym}
use Rattle.std.proofs.lemmas.Grind.{flat_map-append}
use Rattle.std.proofs.lemmas.Map.Keys.{IsDistinct-from_sorted}
use Rattle.std.proofs.lemmas.Map.Made.{is_member-Decides, length-from_keys}
use Rattle.std.specs.List.{IsDistinct, AllByRecursion}
use Rattle.cf_policy.specs.declared.policy.Span.{Span}
use Rattle.cf_policy.specs.declared.policy.Rule.{Rule}
use Rattle.cf_compare.specs.declared.axis.Axis.{Axis}
use Rattle.cf_compare.specs.declared.axis.Axis.TheVariants.{Clients, Groups, Points, Values}
use Rattle.cf_compare.specs.Cells.{lowest, axis_spans, stated_spans, turns, is_on, corner_numbers, corner_count, rule_cells}
use Rattle.cf_compare.specs.Corners.{AreCorners, AreAllCorners}
use Rattle.cf_compare.specs.declared.corners.Corners.{Corners}

flat_map-flat_map : {A B C : Type 0} (g : B → List C) (f : A → List B) (xs : List A) → flat_map g (flat_map f xs) ≡ flat_map (λ x. flat_map g (f x)) xs
flat_map-flat_map g f [] = refl
flat_map-flat_map g f (x ∷ xs) = flat_map-append g (f x) (flat_map f xs) ∙ ap (λ l. flat_map g (f x) ++ l) (flat_map-flat_map g f xs)

-- rules seen through references
pub seen_turns : {A : Type 0} (v : A → Rule) (axis : Axis) (xs : List A) → flat_map (λ x. flat_map turns (axis_spans axis (v x))) xs ≡ flat_map turns (stated_spans axis (map v xs))
seen_turns v axis xs = sym (flat_map-flat_map turns (axis_spans axis) (map v xs) ∙ flat_map-map (λ r. flat_map turns (axis_spans axis r)) v xs)

pub two_turns : (p : ℤ → Bool) (s : Span) (before : List ℤ) → (before ++ filter p (s.low ∷ [])) ++ filter p ((s.high +ℤ pos 1) ∷ []) ≡ before ++ filter p (turns s)
two_turns p s before = append_assoc before (filter p (s.low ∷ [])) (filter p ((s.high +ℤ pos 1) ∷ [])) ∙ ap (λ l. before ++ l) (sym (filter-append p (s.low ∷ []) ((s.high +ℤ pos 1) ∷ [])))

-- all that is gathered, before it is sorted
pub gathered : (axis : Axis) (ours other : List Rule) (one two three : List ℤ)
    → one ≡ [] ++ filter (is_on axis) (lowest axis ∷ [])
    → two ≡ one ++ filter (is_on axis) (flat_map turns (stated_spans axis ours))
    → three ≡ two ++ filter (is_on axis) (flat_map turns (stated_spans axis other))
    → three ≡ corner_numbers axis (stated_spans axis (ours ++ other))
gathered axis ours other one two three e f g =
    let p = is_on axis in
    let mine = flat_map turns (stated_spans axis ours) in
    let theirs = flat_map turns (stated_spans axis other) in
    rw (g, f, e, flat_map-append (axis_spans axis) ours other, flat_map-append turns (stated_spans axis ours) (stated_spans axis other), filter-append p (lowest axis ∷ []) (mine ++ theirs), filter-append p mine theirs)
    (append_assoc (filter p (lowest axis ∷ [])) (filter p mine) (filter p theirs))

int_ties : (x y : ℤ) → int_eq x y ≡ eq_by_cmp int_cmp x y
int_ties x y = let ranks = int_ranks x y in let tells = Decides-int_eq x y in grind (arith, ints, nat_tests)

-- equal by the test
pub int_same : (x y : ℤ) → int_eq x y ≡ true → x ≡ y
int_same x y h = (Decides-int_eq x y).0 h

-- after a sort, and with each number once
pub corners_of : (axis : Axis) (rules : List Rule) (found sorted once : List ℤ) → found ≡ corner_numbers axis (stated_spans axis rules)
    → IsPermutation found sorted → IsSorted int_cmp sorted → once ≡ dedup int_eq sorted → AreCorners axis rules once
corners_of axis rules found sorted once e moved up f =
    let has : (l : List ℤ) (n : ℤ) → Decides (is_member int_eq l n) (Contains l n) = λ l n. is_member-Decides Decides-int_eq l n in
    let all = corner_numbers axis (stated_spans axis rules) in
    record {
      ascending = subst (IsStrictlySortedBy int_cmp) (sym f) (IsStrictlySortedBy-dedup int_cmp_total int_ties sorted up);
      exact = λ n. both_ways (is_member int_eq once n) (is_member int_eq all n)
          (λ h. (has all n).1 (subst (λ l. Contains l n) e (Contains-permutation sorted found n (IsPermutation-sym found sorted moved) (Contains-from_dedup int_eq sorted n (subst (λ l. Contains l n) f ((has once n).0 h))))))
          (λ h. (has once n).1 (subst (λ l. Contains l n) (sym f) (Contains-dedup int_eq_equiv int_same sorted n (Contains-permutation found sorted n moved (subst (λ l. Contains l n) (sym e) ((has all n).0 h))))));
    }

-- the least number of an axis is one of it
pub lowest_on : (axis : Axis) → is_on axis (lowest axis) ≡ true
lowest_on Clients = refl
lowest_on Groups = refl
lowest_on Points = refl
lowest_on Values = refl

pub int_eq_self : (n : ℤ) → int_eq n n ≡ true
int_eq_self n = (Decides-int_eq n n).1 refl

-- it is a corner
pub lowest_in : (axis : Axis) (spans : List Span) → is_member int_eq (corner_numbers axis spans) (lowest axis) ≡ true
lowest_in axis spans = rw (lowest_on axis) (or_left (int_eq (lowest axis) (lowest axis)) _ (int_eq_self (lowest axis)))

distinct_ints : (l : List ℤ) → IsDistinct (eq_by_cmp int_cmp) l → IsDistinct int_eq l
unfolding IsDistinct
distinct_ints [] h = h
distinct_ints (x ∷ l) h = (apart l h.0, distinct_ints l h.1)
  where
    apart : (l : List ℤ) → AllByRecursion (λ y. eq_by_cmp int_cmp x y ≡ false) l → AllByRecursion (λ y. int_eq x y ≡ false) l
    apart [] h = h
    apart (y ∷ l) h = (int_ties x y ∙ h.0, apart l h.1)

module _ (axis : Axis) (rules : List Rule) (corners : List ℤ) (are : AreCorners axis rules corners) where
  pub corner_length : length corners ≡ corner_count axis rules
  corner_length = length-from_keys int_eq_equiv corners (corner_numbers axis (stated_spans axis rules)) (distinct_ints corners (IsDistinct-from_sorted int_cmp corners are.ascending)) are.exact

  pub some_corner : 1 ≤ length corners
  some_corner = filled corners (are.exact (lowest axis) ∙ lowest_in axis (stated_spans axis rules))
    where
      filled : (l : List ℤ) → is_member int_eq l (lowest axis) ≡ true → 1 ≤ length l
      filled [] h = absurd (false≢true h)
      filled (x ∷ l) h = omega arith

module _ (rules : List Rule) (corners : Corners) (are : AreAllCorners rules corners) where
  pub some_corners : (1 ≤ length corners.clients.items) × (1 ≤ length corners.groups.items) × (1 ≤ length corners.points.items)
  some_corners = (some_corner Clients rules corners.clients.items are.clients, some_corner Groups rules corners.groups.items are.groups, some_corner Points rules corners.points.items are.points)

  pub all_cells : ((length corners.clients.items * length corners.groups.items) * length corners.points.items) * (length corners.values.items + 1) ≡ rule_cells rules
  all_cells =
      let clients = corner_length Clients rules corners.clients.items are.clients in
      let groups = corner_length Groups rules corners.groups.items are.groups in
      let points = corner_length Points rules corners.points.items are.points in
      let values = corner_length Values rules corners.values.items are.values in
      cc
