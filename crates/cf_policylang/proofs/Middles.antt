-- What is so of a list is so of an element amid it and of those before that.
use Rattle.std.proofs.Common.{◌≡◌, ◌≢◌, ℕ, zero, suc, false, List, ◌∷◌, ◌++◌, length, get_or, subst, refl, arith, bytes_eq, length-append}
use Rattle.std.specs.List.{All, AllPairs, list_any}
use Rattle.std.proofs.lemmas.Bool.{false_from_ne_true}
use Rattle.std.proofs.lemmas.List.{get_or_append_left, get_or_at}
use Rattle.std.proofs.lemmas.List.Folds.{list_any_none}
use Rattle.std.proofs.lemmas.Slice.Eq.{bytes_eq-Decides}

pub middle : {X : Type 0} (P : X → Type 0) (before : List X) (x : X) (after : List X) → All P (before ++ (x ∷ after)) → P x
middle P before x after h =
    subst P (get_or_at before x after x (length before) refl) (h (length before) x (omega (arith, length-append before (x ∷ after))))

pub pairs_before : {X : Type 0} (R : X → X → Type 0) (before : List X) (x : X) (after : List X) → AllPairs R (before ++ (x ∷ after)) → All (λ y. R y x) before
pairs_before R before x after h i d inside =
    let pair : R (get_or (before ++ (x ∷ after)) i d) (get_or (before ++ (x ∷ after)) (length before) d) =
    h i (length before) d inside (omega (arith, length-append before (x ∷ after))) in
    subst (λ y. R y x) (get_or_append_left before (x ∷ after) d i inside)
    (subst (R (get_or (before ++ (x ∷ after)) i d)) (get_or_at before x after d (length before) refl) pair)

pub pairs_cons : {X : Type 0} (R : X → X → Type 0) (x : X) (xs : List X) → All (R x) xs → AllPairs R xs → AllPairs R (x ∷ xs)
pairs_cons R x xs own rest zero zero d lt inside = absurd (omega arith)
pairs_cons R x xs own rest zero (suc j) d lt inside = own j d (omega arith)
pairs_cons R x xs own rest (suc i) zero d lt inside = absurd (omega arith)
pairs_cons R x xs own rest (suc i) (suc j) d lt inside = rest i j d (omega arith) (omega arith)

-- no element before it has its name
pub none_before : {X : Type 0} (named : X → List ℕ) (before : List X) (x : X) (after : List X)
    → AllPairs (λ y z. named y ≢ named z) (before ++ (x ∷ after)) → list_any (λ y. bytes_eq (named y) (named x)) before ≡ false
none_before named before x after h =
    list_any_none (λ y. bytes_eq (named y) (named x)) before
    (λ i d inside. false_from_ne_true (bytes_eq (named (get_or before i d)) (named x))
    (λ e. pairs_before (λ y z. named y ≢ named z) before x after h i d inside ((bytes_eq-Decides (named (get_or before i d)) (named x)).0 e)))
