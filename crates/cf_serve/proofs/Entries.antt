-- Lists in which a test finds one element at most, and what it finds behind a change.
use Rattle.std.proofs.Common.{Bool, List, None, Some, [], ap, arith, cond, count_by, false, inl, inr, length, refl, slice_get, suc, sym, true, zero, ℕ, ◌++◌, ◌+◌, ◌∙◌, ◌∷◌, ◌≡◌, ◌≤◌, ◌⊎◌}
use Rattle.std.proofs.lemmas.Bool.{cases_Bool, cases_lt, cond-false, cond-true, le-ltb, lt-ltb}
use Rattle.std.proofs.lemmas.List.Folds.{find_at}
use Rattle.std.proofs.lemmas.List.Sums.{sum_by-append, sum_by-cons}
use Rattle.std.proofs.lemmas.Option.{slice_get_past}
use Rattle.std.specs.List.{filter, find, position, position_or_len, remove}
use Rattle.std.specs.Prelude.{option_and_then}

-- one where it passes
abbrev one : Bool → ℕ
one b = cond b 1 0

module _ {X : Type 0} (p : X → Bool) where
  head_yes : (x : X) → p x ≡ true → one (p x) ≡ 1
  head_yes x e = ap one e

  head_no : (x : X) → p x ≡ false → one (p x) ≡ 0
  head_no x e = ap one e

  counted : (x : X) (xs : List X) → count_by p (x ∷ xs) ≡ one (p x) + count_by p xs
  counted x xs = sum_by-cons (λ y. one (p y)) x xs

  found_no : (x : X) (xs : List X) → p x ≡ false → find p (x ∷ xs) ≡ find p xs
  found_no x xs e = ap (λ b. cond b (Some x) (find p xs)) e

  found_yes : (x : X) (xs : List X) → p x ≡ true → find p (x ∷ xs) ≡ Some x
  found_yes x xs e = ap (λ b. cond b (Some x) (find p xs)) e

  -- nothing is found where nothing passes
  pub none_found : (xs : List X) → count_by p xs ≡ 0 → find p xs ≡ None
  none_found [] h = refl
  none_found (x ∷ xs) h = elim (cases_Bool (p x)) [
    | inl passes ↦ absurd (omega (arith, h, counted x xs, head_yes x passes))
    | inr fails ↦ found_no x xs fails ∙ none_found xs (omega (arith, h, counted x xs, head_no x fails))
  ]

  pub none_counted : (xs : List X) → find p xs ≡ None → count_by p xs ≡ 0
  none_counted [] h = refl
  none_counted (x ∷ xs) h = elim (cases_Bool (p x)) [
    | inl passes ↦ cc (sym (found_yes x xs passes) ∙ h)
    | inr fails ↦ omega (arith, counted x xs, head_no x fails, none_counted xs (sym (found_no x xs fails) ∙ h))
  ]

  -- ---- without the element of a place

  -- one that does not pass
  pub found_without : (xs : List X) (i : ℕ) (x : X) → slice_get xs i ≡ Some x → p x ≡ false → find p (remove xs i) ≡ find p xs
  found_without [] i x h e = cc
  found_without (y ∷ xs) zero x h e = let same : y ≡ x = cc in sym (found_no y xs (ap p same ∙ e))
  found_without (y ∷ xs) (suc i) x h e = ap (λ o. cond (p y) (Some y) o) (found_without xs i x h e)

  pub counted_without : (xs : List X) (i : ℕ) (x : X) → slice_get xs i ≡ Some x → count_by p (remove xs i) + one (p x) ≡ count_by p xs
  counted_without [] i x h = cc
  counted_without (y ∷ xs) zero x h =
      let same : y ≡ x = cc in
      omega (arith, counted y xs, ap (λ z. one (p z)) same)
  counted_without (y ∷ xs) (suc i) x h = omega (arith, counted y xs, counted y (remove xs i), counted_without xs i x h)

  -- the one that passes
  pub none_without : (xs : List X) (i : ℕ) (x : X) → slice_get xs i ≡ Some x → p x ≡ true → count_by p xs ≤ 1 → find p (remove xs i) ≡ None
  none_without xs i x h e few = none_found (remove xs i) (omega (arith, few, counted_without xs i x h, head_yes x e))

  -- ---- by its place

  at_place : (xs : List X) → find p xs ≡ option_and_then (slice_get xs) (position p xs)
  at_place xs = elim (cases_lt (position_or_len p xs) (length xs)) [
    | inl inside ↦ find_at p xs ∙ sym (ap (option_and_then (slice_get xs)) (cond-true _ (Some (position_or_len p xs)) None (lt-ltb _ _ inside)))
    | inr past ↦ find_at p xs ∙ slice_get_past xs (position_or_len p xs) past ∙ sym (ap (option_and_then (slice_get xs)) (cond-false _ (Some (position_or_len p xs)) None (le-ltb _ _ past)))
  ]

  pub found_nowhere : (xs : List X) → position p xs ≡ None → find p xs ≡ None
  found_nowhere xs e = at_place xs ∙ ap (option_and_then (slice_get xs)) e

  pub found_at : (xs : List X) (i : ℕ) → position p xs ≡ Some i → find p xs ≡ slice_get xs i
  found_at xs i e = at_place xs ∙ ap (option_and_then (slice_get xs)) e

  -- ---- among those that pass another test

  module _ (q : X → Bool) where
    kept_yes : (x : X) (xs : List X) → q x ≡ true → filter q (x ∷ xs) ≡ x ∷ filter q xs
    kept_yes x xs e = ap (λ b. cond b (x ∷ filter q xs) (filter q xs)) e

    kept_no : (x : X) (xs : List X) → q x ≡ false → filter q (x ∷ xs) ≡ filter q xs
    kept_no x xs e = ap (λ b. cond b (x ∷ filter q xs) (filter q xs)) e

    pub counted_kept : (xs : List X) → count_by p (filter q xs) ≤ count_by p xs
    counted_kept [] = omega arith
    counted_kept (x ∷ xs) = elim (cases_Bool (q x)) [
      | inl passes ↦ omega (arith, ap (count_by p) (kept_yes x xs passes), counted x (filter q xs), counted x xs, counted_kept xs)
      | inr fails ↦ omega (arith, ap (count_by p) (kept_no x xs fails), counted x xs, counted_kept xs)
    ]

    -- it is found still; or it was the only one that passed, and is gone
    abbrev pub IsFoundStill : List X → Type 0
    IsFoundStill xs = (find p (filter q xs) ≡ find p xs) ⊎ ((x : X) × (find p xs ≡ Some x) × (q x ≡ false) × (find p (filter q xs) ≡ None))

    behind_no : (x : X) (xs : List X) → p x ≡ false → (find p (filter q (x ∷ xs)) ≡ find p (filter q xs)) → IsFoundStill xs → IsFoundStill (x ∷ xs)
    behind_no x xs fails same (inl still) = inl (same ∙ still ∙ sym (found_no x xs fails))
    behind_no x xs fails same (inr gone) = inr (gone.0, found_no x xs fails ∙ gone.1, gone.2, same ∙ gone.3)

    pub found_still : (xs : List X) → count_by p xs ≤ 1 → IsFoundStill xs
    found_still [] few = inl refl
    found_still (x ∷ xs) few = elim (cases_Bool (p x)) [
      | inl passes ↦
          elim (cases_Bool (q x)) [
            | inl stays ↦ inl (ap (find p) (kept_yes x xs stays) ∙ found_yes x (filter q xs) passes ∙ sym (found_yes x xs passes))
            | inr goes ↦
                let none : count_by p xs ≡ 0 = omega (arith, few, counted x xs, head_yes x passes) in
                inr (x, found_yes x xs passes, goes, ap (find p) (kept_no x xs goes) ∙ none_found (filter q xs) (omega (arith, none, counted_kept xs)))
          ]
      | inr fails ↦
          let rest = found_still xs (omega (arith, few, counted x xs, head_no x fails)) in
          elim (cases_Bool (q x)) [
            | inl stays ↦ behind_no x xs fails (ap (find p) (kept_yes x xs stays) ∙ found_no x (filter q xs) fails) rest
            | inr goes ↦ behind_no x xs fails (ap (find p) (kept_no x xs goes)) rest
          ]
    ]

  -- ---- one more behind

  counted_more : (xs : List X) (x : X) → count_by p (xs ++ x ∷ []) ≡ count_by p xs + one (p x)
  counted_more xs x = omega (arith, sum_by-append (λ y. one (p y)) xs (x ∷ []), counted x [])

  pub counted_more_yes : (xs : List X) (x : X) → p x ≡ true → count_by p (xs ++ x ∷ []) ≡ count_by p xs + 1
  counted_more_yes xs x e = omega (arith, counted_more xs x, head_yes x e)

  pub counted_more_no : (xs : List X) (x : X) → p x ≡ false → count_by p (xs ++ x ∷ []) ≡ count_by p xs
  counted_more_no xs x e = omega (arith, counted_more xs x, head_no x e)

  pub found_more_no : (xs : List X) (x : X) → p x ≡ false → find p (xs ++ x ∷ []) ≡ find p xs
  found_more_no [] x e = found_no x [] e
  found_more_no (y ∷ xs) x e = ap (λ o. cond (p y) (Some y) o) (found_more_no xs x e)

  pub found_more_yes : (xs : List X) (x : X) → find p xs ≡ None → p x ≡ true → find p (xs ++ x ∷ []) ≡ Some x
  found_more_yes [] x h e = found_yes x [] e
  found_more_yes (y ∷ xs) x h e = elim (cases_Bool (p y)) [
    | inl passes ↦ cc (sym (found_yes y xs passes) ∙ h)
    | inr fails ↦ found_no y (xs ++ x ∷ []) fails ∙ found_more_yes xs x (sym (found_no y xs fails) ∙ h) e
  ]
