-- The first place of a list at which a test passes.
use Rattle.std.proofs.Common.{◌≡◌, ℕ, ◌<◌, Bool, true, false, List, [], ◌∷◌, ◌++◌, length, get_or, Some, subst, sym, ◌∙◌, ap, arith}
use Rattle.std.specs.List.{position, position_or_len, slice_get}
use Rattle.std.proofs.Math.ListN.{get_or-append}
use mathlib.Core.Logic.{⊎_elim}
use Rattle.std.proofs.lemmas.Grind.{common_steps}
use Rattle.std.proofs.lemmas.List.Quantifiers.{position-Some}
use Rattle.std.proofs.lemmas.List.Sums.{position_or_len_is}
use Rattle.std.proofs.lemmas.Option.{slice_get_cases, slice_get_within, slice_get-get_or, get_or_from_slice_get}

module _ {X : Type 0} (p : X → Bool) where
  -- x stands at this place and passes, and none before it passes
  pub record IsFirstAt (xs : List X) (n : ℕ) (x : X) : Type 0 where
    pub here : slice_get xs n ≡ Some x
    pub passes : p x ≡ true
    pub before : (k : ℕ) (y : X) → k < n → slice_get xs k ≡ Some y → p y ≡ false

  slice_get_same : (xs : List X) (k : ℕ) (y : X) → k < length xs → slice_get (xs ++ y ∷ []) k ≡ slice_get xs k
  slice_get_same xs k y lt =
      let more : k < length (xs ++ y ∷ []) = grind (arith, common_steps) in
      slice_get-get_or (xs ++ y ∷ []) k y more ∙ (ap Some (get_or-append xs (y ∷ []) y k lt) ∙ sym (slice_get-get_or xs k y lt))

  pub within_of : (xs : List X) (n : ℕ) → position p xs ≡ Some n → n < length xs
  within_of xs n e = grind (arith, common_steps)

  pub first_at : (xs : List X) (n : ℕ) → position p xs ≡ Some n → (x : X) × IsFirstAt xs n x
  first_at xs n e =
      ⊎_elim
      (λ found. (
        found.0,
        record {
          here = found.2;
          passes = subst (λ y. p y ≡ true) found.3 (position-Some p xs n found.0 e).1;
          before = λ k y lt at. subst (λ z. p z ≡ false) (get_or_from_slice_get xs k y y at) ((position-Some p xs n y e).2 k lt);
        },
      ))
      (λ beyond. absurd (let inside = within_of xs n e in omega (arith, inside, beyond.0)))
      (slice_get_cases xs n).1

  pub position_is : (xs : List X) (n : ℕ) (x : X) → IsFirstAt xs n x → position p xs ≡ Some n
  position_is xs n x f =
      let inside : n < length xs = slice_get_within xs n x f.here in
      let earlier : (k : ℕ) → k < n → p (get_or xs k x) ≡ false =
      λ k lt. f.before k (get_or xs k x) lt (slice_get-get_or xs k x (omega arith)) in
      let here : p (get_or xs n x) ≡ true = subst (λ y. p y ≡ true) (sym (get_or_from_slice_get xs n x x f.here)) f.passes in
      let at : position_or_len p xs ≡ n = position_or_len_is p xs n x (omega arith) earlier (λ _. here) in
      grind (arith, common_steps)

  pub first_at_append : (xs : List X) (n : ℕ) (x y : X) → IsFirstAt xs n x → IsFirstAt (xs ++ y ∷ []) n x
  first_at_append xs n x y f =
      let inside : n < length xs = slice_get_within xs n x f.here in
      record {
        here = slice_get_same xs n y inside ∙ f.here;
        passes = f.passes;
        before = λ k z lt at. f.before k z lt (sym (slice_get_same xs k y (omega arith)) ∙ at);
      }
