-- The elements of lists that are put together.
use Rattle.std.proofs.Common.{◌≡◌, ℕ, zero, suc, ◌⊎◌, inl, inr, List, [], ◌∷◌, ◌++◌, map, slice_get, Some, refl, ap, ◌∙◌, arith}
use mathlib.Core.Logic.{⊎_elim}
use Rattle.std.specs.Prelude.{Contains}
use Rattle.std.proofs.lemmas.List.{get_or-map, length-map}
use Rattle.std.proofs.lemmas.List.Elements.{Contains-append_left, Contains-append_right, Contains-append_cases}
use Rattle.std.proofs.lemmas.Option.{slice_get-get_or}

pub nothing : {X : Type 0} (x : X) → Contains [] x → ⊥
nothing x h = let lt = h.1 in omega (arith, lt)

pub first : {X : Type 0} (x : X) (xs : List X) → Contains (x ∷ xs) x
first x xs = (0, omega arith, refl)

pub only : {X : Type 0} (x y : X) → Contains (x ∷ []) y → x ≡ y
only x y (zero, lt, e) = e
only x y (suc k, lt, e) = absurd (omega (arith, lt))

-- the place of an element
pub place : {X : Type 0} (xs : List X) (x : X) → Contains xs x → (i : ℕ) × (slice_get xs i ≡ Some x)
place xs x h = (h.0, slice_get-get_or xs h.0 x h.1 ∙ ap Some h.2)

pub contains_map : {X Y : Type 0} (f : X → Y) (xs : List X) (x : X) → Contains xs x → Contains (map f xs) (f x)
contains_map f xs x h = (h.0, rw (length-map xs f) h.1, get_or-map f xs h.0 x (f x) h.1 ∙ ap f h.2)

pub contains_mapped : {X Y : Type 0} (f : X → Y) (xs : List X) (y : Y) → Contains (map f xs) y → (x : X) × Contains xs x × (f x ≡ y)
contains_mapped f [] y h = absurd (nothing y h)
contains_mapped f (z ∷ xs) y (zero, lt, e) = (z, first z xs, e)
contains_mapped f (z ∷ xs) y (suc k, lt, e) =
    let r = contains_mapped f xs y (k, omega (arith, lt), e) in let inside = r.1.1 in (r.0, (suc r.1.0, omega (arith, inside), r.1.2), r.2)

-- an element of two lists after two others, of which the first and the third, and the second and the fourth, belong together
pub apart : {X : Type 0} (a b c d : List X) (x : X) → Contains ((a ++ b) ++ (c ++ d)) x → Contains (a ++ c) x ⊎ Contains (b ++ d) x
apart a b c d x h = ⊎_elim
    (λ front. ⊎_elim
    (λ in_a. inl (Contains-append_left a c x in_a))
    (λ in_b. inr (Contains-append_left b d x in_b))
    (Contains-append_cases a b x front))
    (λ back. ⊎_elim
    (λ in_c. inl (Contains-append_right a c x in_c))
    (λ in_d. inr (Contains-append_right b d x in_d))
    (Contains-append_cases c d x back))
    (Contains-append_cases (a ++ b) (c ++ d) x h)

pub together_first : {X : Type 0} (a b c d : List X) (x : X) → Contains (a ++ c) x → Contains ((a ++ b) ++ (c ++ d)) x
together_first a b c d x h = ⊎_elim
    (λ in_a. Contains-append_left (a ++ b) (c ++ d) x (Contains-append_left a b x in_a))
    (λ in_c. Contains-append_right (a ++ b) (c ++ d) x (Contains-append_left c d x in_c))
    (Contains-append_cases a c x h)

pub together_second : {X : Type 0} (a b c d : List X) (x : X) → Contains (b ++ d) x → Contains ((a ++ b) ++ (c ++ d)) x
together_second a b c d x h = ⊎_elim
    (λ in_b. Contains-append_left (a ++ b) (c ++ d) x (Contains-append_right a b x in_b))
    (λ in_d. Contains-append_right (a ++ b) (c ++ d) x (Contains-append_right c d x in_d))
    (Contains-append_cases b d x h)
