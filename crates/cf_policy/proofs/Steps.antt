-- One more turn of the loops that make the table of points.
use Rattle.std.proofs.Common.{◌≡◌, ℕ, ◌+◌, ◌<◌, ◌≤◌, ◌||◌, pos, Bool, true, List, [], ◌∷◌, ◌++◌, length, get_or, take, sym, ap, subst, ◌∙◌, arith}
use Rattle.std.specs.List.{list_any}
use Rattle.std.proofs.Math.ListN.{get_or-append}
use Rattle.std.proofs.Math.Seq.{get_or-append_seam}
use Rattle.std.proofs.lemmas.Bool.{cases_lt, cases_Bool}
use Rattle.std.proofs.lemmas.List.{length-append}
use Rattle.std.proofs.lemmas.List.Folds.{list_any_more}
use Rattle.std.proofs.lemmas.Option.{slice_get-get_or, get_or_from_slice_get}
use mathlib.Core.Logic.{⊎_elim}
use Rattle.cf_policy.specs.declared.policy.Span.{Span}
use Rattle.cf_policy.specs.declared.point_table.PointCell.{PointCell}
use Rattle.cf_policy.specs.PointTable.{HasReaches}
use Rattle.cf_policy.specs.Verdict.{covers}

at_place : {X : Type 0} (xs : List X) (k i : ℕ) (d e : X) → k ≡ i → i < length xs → get_or xs k d ≡ get_or xs i e
at_place xs k i d e is inside = ap (λ n. get_or xs n d) is ∙ get_or_from_slice_get xs i (get_or xs i e) d (slice_get-get_or xs i e inside)

at_end : {X : Type 0} (xs : List X) (y d : X) (k : ℕ) → k ≡ length xs → get_or (xs ++ y ∷ []) k d ≡ y
at_end xs y d k is = ap (λ n. get_or (xs ++ y ∷ []) n d) is ∙ get_or-append_seam xs y [] d

-- the items so far are related to those of the other list, place by place
abbrev pub AreLike : {A B : Type 0} → (A → B → Type 0) → List A → ℕ → List B → Type 0
AreLike {A} {B} R xs i ys = (length ys ≡ i) × ((k : ℕ) (d : A) (e : B) → k < i → R (get_or xs k d) (get_or ys k e))

pub like_more : {A B : Type 0} (R : A → B → Type 0) (xs : List A) (i : ℕ) (d : A) (ys : List B) (y : B) → i < length xs → AreLike R xs i ys → R (get_or xs i d) y
    → AreLike R xs (i + 1) (ys ++ y ∷ [])
like_more R xs i d ys y inside old own = (
  omega (arith, old.0, length-append ys (y ∷ [])),
  λ k f e less. ⊎_elim
      (λ early. subst (λ b. R (get_or xs k f) b) (sym (get_or-append ys (y ∷ []) e k (omega (arith, early, old.0)))) (old.1 k f e early))
      (λ late.
      let is : k ≡ i = omega (arith, late, less) in
      subst (λ a. R a (get_or (ys ++ y ∷ []) k e)) (sym (at_place xs k i f d is inside))
      (subst (λ b. R (get_or xs i d) b) (sym (at_end ys y e k (omega (arith, is, old.0)))) own))
      (cases_lt k i),
)

-- how far the cells before each of the first reach, and how far all of them
abbrev pub HasReached : List PointCell → ℕ → List ℕ → ℕ → Type 0
HasReached cells i reaches reach =
    (length reaches ≡ i) × HasReaches cells reaches × ((k : ℕ) (d : PointCell) → k < i → (get_or cells k d).last ≤ reach)

pub reached_more : (cells : List PointCell) (i : ℕ) (d : PointCell) (reaches : List ℕ) (reach next : ℕ) → i < length cells → HasReached cells i reaches reach
    → reach ≤ next → (get_or cells i d).last ≤ next → HasReached cells (i + 1) (reaches ++ reach ∷ []) next
reached_more cells i d reaches reach next inside old up own = (
  omega (arith, old.0, length-append reaches (reach ∷ [])),
  λ k j e lt within. ⊎_elim
      (λ early.
      let bound = old.1 k j e lt early in
      let same = get_or-append reaches (reach ∷ []) 0 j early in
      omega (arith, bound, same))
      (λ late.
      let long = length-append reaches (reach ∷ []) in
      let bound = old.2 k e (omega (arith, lt, within, long, old.0)) in
      let same = at_end reaches reach 0 j (omega (arith, late, within, long)) in
      omega (arith, bound, same))
      (cases_lt j (length reaches)),
  λ k e less. ⊎_elim
      (λ early. let bound = old.2 k e early in omega (arith, bound, up))
      (λ late.
      let same = ap (λ (c : PointCell). c.last) (at_place cells k i e d (omega (arith, late, less)) inside) in
      omega (arith, same, own))
      (cases_lt k i),
)

-- the points of the first spans lie between the two
abbrev pub LieBetween : List Span → (low high : ℕ) → Type 0
LieBetween spans low high = (point : ℕ) → list_any (λ s. covers s (pos point)) spans ≡ true → (low ≤ point) × (point ≤ high)

pub between_more : (spans : List Span) (i : ℕ) (d : Span) (low high lower higher : ℕ) → i < length spans → LieBetween (take i spans) low high
    → lower ≤ low → high ≤ higher → ((point : ℕ) → covers (get_or spans i d) (pos point) ≡ true → (lower ≤ point) × (point ≤ higher))
    → LieBetween (take (i + 1) spans) lower higher
between_more spans i d low high lower higher inside old down up own point has =
    let p : Span → Bool = λ s. covers s (pos point) in
    ⊎_elim
    (λ early. let was = old point early in (omega (arith, was.0, down), omega (arith, was.1, up)))
    (λ no. own point (sym (list_any_more p spans i d inside ∙ ap (λ b. b || p (get_or spans i d)) no) ∙ has))
    (cases_Bool (list_any p (take i spans)))
