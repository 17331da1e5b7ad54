-- The assets behind one address and port, found in a policy.
use Rattle.std.proofs.Common.{◌≡◌, ◌∙◌, ℕ, ◌+◌, ◌≤◌, Bool, true, false, not, cond, List, [], ◌∷◌, length, take, Some, None, ap, refl, sym, arith}
use Rattle.std.specs.List.{position, position_or_len, prefix_len, take_while}
use Rattle.std.proofs.lemmas.Grind.{common_steps}
use Rattle.std.proofs.lemmas.List.{take_all}

module _ {X : Type 0} (p : X → Bool) where
  not_not : (b : Bool) → not (not b) ≡ b
  not_not true = refl
  not_not false = refl

  until_is : (xs : List X) → position_or_len (λ x. not (p x)) xs ≡ prefix_len p xs
  until_is [] = refl
  until_is (x ∷ xs) = ap (λ b. cond b (1 + position_or_len (λ y. not (p y)) xs) 0) (not_not (p x)) ∙ ap (λ n. cond (p x) (1 + n) 0) (until_is xs)

  -- what passes from the front on ends where the first stands that does not
  pub front_until : (xs : List X) (n : ℕ) → position (λ x. not (p x)) xs ≡ Some n → take n xs ≡ take_while p xs
  front_until xs n e =
      let at : position_or_len (λ x. not (p x)) xs ≡ n = grind (arith, common_steps) in
      ap (λ k. take k xs) (sym at ∙ until_is xs)

  pub front_all : (xs : List X) → position (λ x. not (p x)) xs ≡ None → xs ≡ take_while p xs
  front_all xs e =
      let past : length xs ≤ position_or_len (λ x. not (p x)) xs = grind (arith, common_steps) in
      sym (take_all (position_or_len (λ x. not (p x)) xs) xs past) ∙ ap (λ k. take k xs) (until_is xs)
