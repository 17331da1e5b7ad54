-- What holds of each of a list.
use Rattle.std.proofs.Common.{◌≡◌, ℕ, zero, suc, List, [], ◌∷◌, ◌++◌, Some, set, slice_get, unwrap_or, ap, subst, sym}
use Rattle.std.specs.List.{AllByRecursion}
use Rattle.std.proofs.lemmas.Option.{none-some}

module _ {X : Type 0} (P : X → Type 0) where
  pub all_append : (xs ys : List X) → AllByRecursion P xs → AllByRecursion P ys → AllByRecursion P (xs ++ ys)
  all_append [] ys a b = b
  all_append (x ∷ xs) ys a b = (a.0, all_append xs ys a.1 b)

  pub all_set : (xs : List X) (i : ℕ) (x : X) → AllByRecursion P xs → P x → AllByRecursion P (set xs i x)
  all_set [] i x a h = tt
  all_set (w ∷ xs) zero x a h = (h, a.1)
  all_set (w ∷ xs) (suc i) x a h = (a.0, all_set xs i x a.1 h)

  pub all_get : (xs : List X) (i : ℕ) (x : X) → AllByRecursion P xs → slice_get xs i ≡ Some x → P x
  all_get [] i x a e = absurd (none-some x e)
  all_get (w ∷ xs) zero x a e = subst P (ap (λ o. unwrap_or o w) e) a.0
  all_get (w ∷ xs) (suc i) x a e = all_get xs i x a.1 e

  pub all_front : (xs ys : List X) → AllByRecursion P (xs ++ ys) → AllByRecursion P xs
  all_front [] ys a = tt
  all_front (x ∷ xs) ys a = (a.0, all_front xs ys a.1)

  pub all_behind : (xs ys : List X) → AllByRecursion P (xs ++ ys) → AllByRecursion P ys
  all_behind [] ys a = a
  all_behind (x ∷ xs) ys a = all_behind xs ys a.1

  -- where one of them was changed: it is so, and all were so before
  pub all_here : (xs : List X) (i : ℕ) (x y : X) → AllByRecursion P (set xs i x) → slice_get xs i ≡ Some y → P x
  all_here [] i x y a e = absurd (none-some y e)
  all_here (w ∷ xs) zero x y a e = a.0
  all_here (w ∷ xs) (suc i) x y a e = all_here xs i x y a.1 e

  pub all_before : (xs : List X) (i : ℕ) (x y : X) → AllByRecursion P (set xs i x) → slice_get xs i ≡ Some y → (P x → P y) → AllByRecursion P xs
  all_before [] i x y a e f = tt
  all_before (w ∷ xs) zero x y a e f = (subst P (sym (ap (λ o. unwrap_or o w) e)) (f a.0), a.1)
  all_before (w ∷ xs) (suc i) x y a e f = (a.0, all_before xs i x y a.1 e f)
