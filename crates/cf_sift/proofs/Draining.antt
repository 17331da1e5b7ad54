-- Laws of a queue that is moved into a file, and of what holds after an error.
use Rattle.std.proofs.Common.{◌≡◌, ◌+◌, ℕ, zero, suc, List, [], ◌∷◌, length, take, drop, refl, sym, ap, ◌∙◌, arith, Ok, Err}
use Rattle.std.specs.Prelude.{Result, OnErr}
use Rattle.cf_lane.specs.Handled.{State}
use Rattle.std.proofs.lemmas.List.{drop-drop, length-drop, take_all}
use Rattle.cf_outside.specs.Files.{Content, with_appended}
use Rattle.cf_outside.proofs.Content.{with_appended-piece}

-- the first of the first of a list are its first
first_few : (k n : ℕ) (xs : List ℕ) → (m : ℕ) × (take k (take n xs) ≡ take m xs)
first_few zero n xs = (0, refl)
first_few (suc k) zero xs = (0, refl)
first_few (suc k) (suc n) [] = (0, refl)
first_few (suc k) (suc n) (x ∷ xs) = let (m, e) = first_few k n xs in (suc m, ap (λ l. x ∷ l) e)

module _ (first now : List ℕ) (gone : ℕ) (c d : Content) (left : now ≡ drop gone first) (file : d ≡ with_appended c (take gone first)) where
  -- the next bytes were moved
  pub moved_more : (later piece : List ℕ) (n : ℕ) (e : Content) → piece ≡ take n now → later ≡ drop n now → e ≡ with_appended d piece →
      (later ≡ drop (gone + n) first) × (e ≡ with_appended c (take (gone + n) first))
  moved_more later piece n e is rest moved = (
    rest ∙ ap (drop n) left ∙ drop-drop n gone first,
    moved ∙ ap (with_appended d) (is ∙ ap (take n) left) ∙ ap (λ x. with_appended x (take n (drop gone first))) file ∙ with_appended-piece c first gone n,
  )

  -- or some of them
  pub partly_moved : (piece : List ℕ) (n : ℕ) (e : Content) → piece ≡ take n now → ((k : ℕ) × (e ≡ with_appended d (take k piece))) → (m : ℕ) × (e ≡ with_appended c (take (gone + m) first))
  partly_moved piece n e is (k, moved) =
      let (m, fewer) = first_few k n (drop gone first) in (
        m,
        moved ∙ ap (λ xs. with_appended d (take k xs)) (is ∙ ap (take n) left) ∙ ap (with_appended d) fewer
            ∙ ap (λ x. with_appended x (take m (drop gone first))) file ∙ with_appended-piece c first gone m,
      )

  -- nothing is left
  pub all_moved : now ≡ [] → d ≡ with_appended c first
  all_moved none = file ∙ ap (with_appended c) (take_all gone first (omega (arith, length-drop gone first, ap length (sym left ∙ none))))

-- a fact that stands anyway stands after an error
pub on_err : {A E : Type 0} (P : Type 0) (r : Result A E) → P → OnErr r P
on_err P (Ok x) p = tt
on_err P (Err e) p = p

-- a line that failed at a desk over a log: the log is the same one
pub misses : {A E : Type 0} (r : Result A E) (Misses : State → Content → Type 0) (before old : State) (log now : Content) →
    before ≡ old → log ≡ now → OnErr r (Misses before log) → OnErr r (Misses old now)
misses r Misses before old log now started same h = rw (← started, ← same) h
