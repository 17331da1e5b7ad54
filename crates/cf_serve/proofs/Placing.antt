-- A session in its place: the list before it, and behind it.
use Rattle.std.proofs.Common.{List, Some, ap, arith, length, map, refl, subst, suc, sym, zero, ℕ, ◌++◌, ◌<◌, ◌∙◌, ◌∷◌, ◌≡◌, []}
use Rattle.std.specs.Prelude.{slice_get}
use Rattle.std.specs.List.{AllByRecursion, remove}
use Rattle.std.proofs.Math.ListN.{get_or, set}
use Rattle.std.proofs.lemmas.List.{length-map, map-append}
use Rattle.std.proofs.lemmas.Option.{same_Some}
use Rattle.cf_serve.specs.Phase.{Phase, phase_of}
use Rattle.cf_serve.specs.declared.session.Served.{Served}

-- where an element stands
pub record SplitAt {X : Type 0} (xs : List X) (i : ℕ) (x : X) : Type 0 where
  pub before : List X
  pub after : List X
  pub at : length before ≡ i
  pub was : xs ≡ before ++ x ∷ after
  pub put : (y : X) → set xs i y ≡ before ++ y ∷ after
  pub out : (y : X) → remove (set xs i y) i ≡ before ++ after

module _ {X : Type 0} where
  later : (y : X) (xs : List X) (i : ℕ) (x : X) → SplitAt xs i x → SplitAt (y ∷ xs) (suc i) x
  later y xs i x s = record {
    before = y ∷ s.before;
    after = s.after;
    at = let l : length s.before ≡ i = s.at in omega arith;
    was = ap (λ zs. y ∷ zs) s.was;
    put = λ z. ap (λ zs. y ∷ zs) (s.put z);
    out = λ z. ap (λ zs. y ∷ zs) (s.out z);
  }

  pub split_at : (xs : List X) (i : ℕ) (x : X) → i < length xs → x ≡ get_or xs i x → SplitAt xs i x
  split_at [] i x h e = absurd (let n : i < 0 = h in omega (arith, n))
  split_at (y ∷ xs) zero x h e = record {
    before = [];
    after = xs;
    at = refl;
    was = ap (λ z. z ∷ xs) (sym e);
    put = λ z. refl;
    out = λ z. refl;
  }
  split_at (y ∷ xs) (suc i) x h e = later y xs i x (split_at xs i x (let n : suc i < length (y ∷ xs) = h in omega (arith, n)) e)

  pub all_at : (P : X → Type 0) (xs : List X) (i : ℕ) (x : X) → slice_get xs i ≡ Some x → AllByRecursion P xs → P x
  all_at P [] i x e h = cc
  all_at P (y ∷ xs) zero x e (p, h) = subst P (same_Some y x e) p
  all_at P (y ∷ xs) (suc i) x e (p, h) = all_at P xs i x e h

-- the same of what is kept of the sessions
pub record PhasesAt (xs : List Served) (i : ℕ) (x : Served) : Type 0 where
  pub before : List Phase
  pub after : List Phase
  pub at : length before ≡ i
  pub was : map phase_of xs ≡ before ++ phase_of x ∷ after
  pub put : (y : Served) → map phase_of (set xs i y) ≡ before ++ phase_of y ∷ after
  pub out : (y : Served) → map phase_of (remove (set xs i y) i) ≡ before ++ after

pub phases_at : (xs : List Served) (i : ℕ) (x : Served) → i < length xs → x ≡ get_or xs i x → PhasesAt xs i x
phases_at xs i x h e =
    let s = split_at xs i x h e in
    record {
      before = map phase_of s.before;
      after = map phase_of s.after;
      at = length-map s.before phase_of ∙ s.at;
      was = ap (map phase_of) s.was ∙ map-append phase_of s.before (x ∷ s.after);
      put = λ y. ap (map phase_of) (s.put y) ∙ map-append phase_of s.before (y ∷ s.after);
      out = λ y. ap (map phase_of) (s.out y) ∙ map-append phase_of s.before s.after;
    }

-- the element of a place, and one that is put there and taken out
pub slice_at : {X : Type 0} (xs : List X) (i : ℕ) (x : X) → i < length xs → x ≡ get_or xs i x → slice_get xs i ≡ Some x
slice_at [] i x h e = absurd (let n : i < 0 = h in omega (arith, n))
slice_at (y ∷ xs) zero x h e = ap Some (sym e)
slice_at (y ∷ xs) (suc i) x h e = slice_at xs i x (let n : suc i < length (y ∷ xs) = h in omega (arith, n)) e

pub removed_is : {X : Type 0} (xs : List X) (i : ℕ) (y r : X) → i < length xs → r ≡ get_or (set xs i y) i r → r ≡ y
removed_is [] i y r h e = absurd (let n : i < 0 = h in omega (arith, n))
removed_is (x ∷ xs) zero y r h e = e
removed_is (x ∷ xs) (suc i) y r h e = removed_is xs i y r (let n : suc i < length (x ∷ xs) = h in omega (arith, n)) e

pub phase_at : (xs : List Served) (i : ℕ) (x : Served) → slice_get xs i ≡ Some x → slice_get (map phase_of xs) i ≡ Some (phase_of x)
phase_at [] i x is = cc is
phase_at (y ∷ xs) zero x is = ap (λ z. Some (phase_of z)) (same_Some y x is)
phase_at (y ∷ xs) (suc i) x is = phase_at xs i x is
