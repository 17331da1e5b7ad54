-- Items that follow each other in octets that grow.
use Rattle.std.proofs.Common.{◌≡◌, ◌<◌, ◌≤◌, ℕ, Option, None, Some, List, [], ◌∷◌, ◌++◌, length, take, refl, sym, ap, ◌∙◌, append_assoc, arith, zero, suc}
use Rattle.std.specs.List.{flat_map}
use Rattle.std.proofs.lemmas.List.{append-nil}
use Rattle.cf_run.specs.Items.{next_item, items_from, next_part, part_from}

module _ {A : Type 0} (unit : List ℕ → Option A) where
  pub items-append : (part xs ys : List ℕ) → items_from unit part (xs ++ ys) ≡ items_from unit part xs ++ items_from unit (part_from unit part xs) ys
  items-append part [] ys = refl
  items-append part (x ∷ xs) ys =
      let p : List ℕ = part ++ x ∷ [] in
      elim (unit p) as (λ u. next_item u (items_from unit p (xs ++ ys)) (items_from unit [] (xs ++ ys))
      ≡ next_item u (items_from unit p xs) (items_from unit [] xs) ++ items_from unit (next_part u (part_from unit p xs) (part_from unit [] xs)) ys) [
        | None ↦ items-append p xs ys
        | Some item ↦ ap (λ l. item ∷ l) (items-append [] xs ys)
      ]

  pub part-append : (part xs ys : List ℕ) → part_from unit part (xs ++ ys) ≡ part_from unit (part_from unit part xs) ys
  part-append part [] ys = refl
  part-append part (x ∷ xs) ys =
      let p : List ℕ = part ++ x ∷ [] in
      elim (unit p) as (λ u. next_part u (part_from unit p (xs ++ ys)) (part_from unit [] (xs ++ ys))
      ≡ part_from unit (next_part u (part_from unit p xs) (part_from unit [] xs)) ys) [
        | None ↦ part-append p xs ys
        | Some item ↦ part-append [] xs ys
      ]

  -- no beginning of a text that spells no item has one
  pub items-part : (part text : List ℕ) (k : ℕ) → ((j : ℕ) → j ≤ k → unit (part ++ take j text) ≡ None) →
      items_from unit part (take k text) ≡ []
  items-part part text zero none = refl
  items-part part [] (suc k) none = refl
  items-part part (x ∷ xs) (suc k) none =
      let p : List ℕ = part ++ x ∷ [] in
      let first : unit p ≡ None = none 1 (omega arith) in
      let later : (j : ℕ) → j ≤ k → unit (p ++ take j xs) ≡ None =
      λ j h. ap unit (append_assoc part (x ∷ []) (take j xs)) ∙ none (suc j) (omega arith) in
      rw first (items-part p xs k later)

  -- what has no item stands after the last one
  pub part-none : (part text : List ℕ) (k : ℕ) → ((j : ℕ) → j ≤ k → unit (part ++ take j text) ≡ None) →
      part_from unit part (take k text) ≡ part ++ take k text
  part-none part text zero none = sym (append-nil part)
  part-none part [] (suc k) none = sym (append-nil part)
  part-none part (x ∷ xs) (suc k) none =
      let p : List ℕ = part ++ x ∷ [] in
      let first : unit p ≡ None = none 1 (omega arith) in
      let later : (j : ℕ) → j ≤ k → unit (p ++ take j xs) ≡ None =
      λ j h. ap unit (append_assoc part (x ∷ []) (take j xs)) ∙ none (suc j) (omega arith) in
      rw first (part-none p xs k later ∙ append_assoc part (x ∷ []) (take k xs))

  -- a text that spells an item, and no beginning of which does, is one item
  pub items-one : (part : List ℕ) (x : ℕ) (xs : List ℕ) (item : A) → unit (part ++ x ∷ xs) ≡ Some item →
      ((j : ℕ) → j < length (x ∷ xs) → unit (part ++ take j (x ∷ xs)) ≡ None) →
      (items_from unit part (x ∷ xs) ≡ item ∷ []) × (part_from unit part (x ∷ xs) ≡ [])
  items-one part x [] item whole none = (rw whole refl, rw whole refl)
  items-one part x (y ∷ ys) item whole none =
      let p : List ℕ = part ++ x ∷ [] in
      let first : unit p ≡ None = none 1 (omega arith) in
      let later : (j : ℕ) → j < length (y ∷ ys) → unit (p ++ take j (y ∷ ys)) ≡ None =
      λ j h. ap unit (append_assoc part (x ∷ []) (take j (y ∷ ys))) ∙ none (suc j) (omega arith) in
      let (a, b) = items-one p y ys item (ap unit (append_assoc part (x ∷ []) (y ∷ ys)) ∙ whole) later in
      (rw first a, rw first b)

  -- the items as they are spelled, and what stands after them, are the octets
  module _ (spell : A → List ℕ) (is_spelled : (octets : List ℕ) (item : A) → unit octets ≡ Some item → octets ≡ spell item) where
    rest_by : (p xs : List ℕ) (u : Option A) → unit p ≡ u → flat_map spell (items_from unit p xs) ++ part_from unit p xs ≡ p ++ xs →
        flat_map spell (items_from unit [] xs) ++ part_from unit [] xs ≡ xs →
        flat_map spell (next_item u (items_from unit p xs) (items_from unit [] xs)) ++ next_part u (part_from unit p xs) (part_from unit [] xs) ≡ p ++ xs
    rest_by p xs None e more fresh = more
    rest_by p xs (Some item) e more fresh =
        append_assoc (spell item) (flat_map spell (items_from unit [] xs)) (part_from unit [] xs) ∙ ap (λ l. spell item ++ l) fresh
        ∙ ap (λ l. l ++ xs) (sym (is_spelled p item e))

    pub items-rest : (part xs : List ℕ) → flat_map spell (items_from unit part xs) ++ part_from unit part xs ≡ part ++ xs
    items-rest part [] = sym (append-nil part)
    items-rest part (x ∷ xs) =
        let p : List ℕ = part ++ x ∷ [] in
        rest_by p xs (unit p) refl (items-rest p xs) (items-rest [] xs) ∙ append_assoc part (x ∷ []) xs
