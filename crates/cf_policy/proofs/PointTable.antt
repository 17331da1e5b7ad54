-- Which rule of a code can take a point, by cells that are sorted by where they begin.
use Rattle.std.proofs.Common.{◌≡◌, ℕ, ◌-◌, ◌^◌, ◌<◌, ◌≤◌, true, ℤ, List, [], ◌∷◌, length, get_or, Some, sym, ap, subst, ◌∙◌, arith}
use Rattle.std.specs.Prelude.{Contains, slice_get}
use Rattle.std.specs.List.{Any, list_any}
use Rattle.std.specs.List.Sorted.{IsNonDecreasingBy, IsPermutation}
use Rattle.std.proofs.lemmas.Bool.{cases_lt, cases_Bool}
use Rattle.std.proofs.lemmas.Option.{slice_get_within, slice_get-get_or, get_or_from_slice_get}
use mathlib.Core.Logic.{⊎_elim}
use Rattle.std.proofs.lemmas.List.Sorted.{Contains-permutation, IsPermutation-sym}
use Rattle.cf_policy.specs.declared.policy.Rule.{Rule}
use Rattle.cf_policy.specs.declared.policy.Span.{Span}
use Rattle.cf_policy.specs.declared.index.CodePair.{CodePair}
use Rattle.cf_policy.specs.declared.point_table.PointCell.{PointCell}
use Rattle.cf_policy.specs.PointTable.{line_place, takes_point, AreSortedCells, HasCells, IsCellOf, IsTableOf, IsStretch, HasTaker}
use Rattle.cf_policy.specs.Verdict.{covers, takes}
use Rattle.cf_policy.specs.declared.point_table.Taker.TheVariants.{Nobody, Only}

module _ (rules : List Rule) (pairs : List CodePair) (cells : List PointCell) (reaches : List ℕ) (code first last count : ℕ) (table : IsTableOf rules pairs cells reaches) (fits : last < 2 ^ 32) (ordered : first ≤ last) (stretch : IsStretch cells code first last count) where
  abbrev pair_at : ℕ → CodePair
  pair_at rule = record { code = code; rule = rule }

  -- a rule that takes a point of the stretch has a cell among those before its end that reaches its beginning
  taken_by : (rule point : ℕ) → Contains pairs (pair_at rule) → first ≤ point → point ≤ last → takes_point rules rule point ≡ true
      → Any (λ cell. (cell.rule ≡ rule) × (line_place code first ≤ cell.last)) cells
  taken_by rule point has from to takes =
      let a = table.sorted.every (pair_at rule) has in
      let around = a.4.around point (omega (arith, to, fits)) takes in
      (a.0, a.1, a.2, a.3, (a.4.rule, omega (arith, around.1, from)))

  -- it stands before the count
  before_count : (rule point : ℕ) → (has : Contains pairs (pair_at rule)) → first ≤ point → point ≤ last → (takes : takes_point rules rule point ≡ true) → (table.sorted.every (pair_at rule) has).0 < count
  before_count rule point has from to takes =
      let a = table.sorted.every (pair_at rule) has in
      let around = a.4.around point (omega (arith, to, fits)) takes in
      ⊎_elim (λ lt. lt)
      (λ late. absurd (
      let rise = table.sorted.ascending count a.0 a.1 late a.2 in
      let next = stretch.after a.1 (omega (arith, late, a.2)) in
      let here : (get_or cells a.0 a.1).first ≡ a.1.first = ap (λ c. c.first) a.3 in
      omega (arith, rise, next, here, around.0, to)))
      (cases_lt a.0 count)

  -- where no cell before the last of these reaches the beginning, it is that one
  pub is_last : (cell : PointCell) (reach rule point : ℕ) → slice_get cells (count - 1) ≡ Some cell → slice_get reaches (count - 1) ≡ Some reach → reach < line_place code first
      → Contains pairs (pair_at rule) → first ≤ point → point ≤ last → takes_point rules rule point ≡ true → (cell.rule ≡ rule) × (line_place code first ≤ cell.last)
  unfolding taken_by
  is_last cell reach rule point at reach_at short has from to takes =
      let t = taken_by rule point has from to takes in
      let lt : t.0 < count = before_count rule point has from to takes in
      let same : t.0 ≡ count - 1 = ⊎_elim
      (λ early. absurd (
      let far = table.reach t.0 (count - 1) t.1 early (slice_get_within reaches (count - 1) reach reach_at) in
      let bound : get_or reaches (count - 1) 0 ≡ reach = get_or_from_slice_get reaches (count - 1) reach 0 reach_at in
      let own : (get_or cells t.0 t.1).last ≡ t.1.last = ap (λ c. c.last) t.3 in
      omega (arith, far, bound, own, t.4.1, short)))
      (λ late. omega (arith, late, lt))
      (cases_lt t.0 (count - 1)) in
      let here : t.1 ≡ cell = sym t.3 ∙ ap (λ k. get_or cells k t.1) same ∙ get_or_from_slice_get cells (count - 1) cell t.1 at in
      subst (λ c. (c.rule ≡ rule) × (line_place code first ≤ c.last)) here t.4

  pub nobody_first : count ≡ 0 → HasTaker rules pairs code first last Nobody
  nobody_first none rule point has from to =
      ⊎_elim
      (λ takes. absurd (let lt = before_count rule point has from to takes in omega (arith, lt, none)))
      (λ lacks. lacks)
      (cases_Bool (takes_point rules rule point))

  module _ (cell : PointCell) (reach : ℕ) (at : slice_get cells (count - 1) ≡ Some cell) (reach_at : slice_get reaches (count - 1) ≡ Some reach) (short : reach < line_place code first) where
    pub nobody_after : cell.last < line_place code first → HasTaker rules pairs code first last Nobody
    nobody_after past rule point has from to =
        ⊎_elim
        (λ takes. absurd (let t = is_last cell reach rule point at reach_at short has from to takes in omega (arith, t.1, past)))
        (λ lacks. lacks)
        (cases_Bool (takes_point rules rule point))

    pub only_after : 1 ≤ count → line_place code first ≤ cell.last → HasTaker rules pairs code first last (Only cell.rule)
    only_after some here =
        let known = table.sorted.known cell (count - 1, slice_get_within cells (count - 1) cell at, get_or_from_slice_get cells (count - 1) cell cell at) in
        let begins = stretch.before (count - 1) cell (omega (arith, some)) in
        let own : (get_or cells (count - 1) cell).first ≡ cell.first = ap (λ c. c.first) (get_or_from_slice_get cells (count - 1) cell cell at) in
        let same : known.1.code ≡ code = omega (arith, known.4.above, known.4.below, begins, own, here, ordered, fits) in
        let pair : known.1 ≡ pair_at cell.rule = λ i. record { code = same i; rule = sym known.4.rule i } in (
          subst (Contains pairs) pair (known.0, known.2, known.3),
          λ rule point has from to takes. sym (is_last cell reach rule point at reach_at short has from to takes).0,
        )

-- a list that is stated takes what one of its spans covers
pub some_covers : (spans : List Span) (n : ℤ) → 1 ≤ length spans → takes spans n ≡ true → list_any (λ s. covers s n) spans ≡ true
some_covers [] n some h = absurd (omega (arith, some))
some_covers (s ∷ ss) n some h = h

-- a cell for each pair, in another order
pub sorted_cells : (rules : List Rule) (pairs : List CodePair) (cells sorted : List PointCell) → HasCells rules pairs cells → IsPermutation cells sorted
    → IsNonDecreasingBy (λ cell. cell.first) sorted → AreSortedCells rules pairs sorted
sorted_cells rules pairs cells sorted has moved up =
    let d : PointCell = record { first = 0; last = 0; rule = 0 } in
    let e : CodePair = record { code = 0; rule = 0 } in
    record {
      every = λ pair a.
          let inside : a.0 < length cells = omega (arith, a.1, has.0) in
          let cell = get_or cells a.0 d in
          let own : IsCellOf rules pair cell = subst (λ p. IsCellOf rules p cell) a.2 (has.1 a.0 pair d inside) in
          let b = Contains-permutation cells sorted cell moved (a.0, inside, at_other cells a.0 d cell inside) in
          (b.0, cell, b.1, b.2, own);
      known = λ cell a.
          let b = Contains-permutation sorted cells cell (IsPermutation-sym cells sorted moved) a in
          let inside : b.0 < length pairs = omega (arith, b.1, has.0) in
          let pair = get_or pairs b.0 e in
          let own : IsCellOf rules pair cell = subst (λ c. IsCellOf rules pair c) b.2 (has.1 b.0 e cell b.1) in
          (b.0, pair, inside, at_other pairs b.0 e pair inside, own);
      ascending = up;
    }
  where
    at_other : {X : Type 0} (xs : List X) (k : ℕ) (d e : X) → k < length xs → get_or xs k e ≡ get_or xs k d
    at_other xs k d e inside = get_or_from_slice_get xs k (get_or xs k d) e (slice_get-get_or xs k d inside)
