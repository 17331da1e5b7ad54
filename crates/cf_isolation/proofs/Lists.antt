-- Lists of which each element has something, in parts and filtered.
use Rattle.std.proofs.Common.{◌≡◌, ◌&&◌, Bool, true, false, List, [], ◌∷◌, ◌++◌, cond, refl, ap, ◌∙◌, filter}
use Rattle.cf_isolation.proofs.Common.{AllByRecursion}

pub all_map : {X : Type 0} (P Q : X → Type 0) → ((x : X) → P x → Q x) → (xs : List X) → AllByRecursion P xs → AllByRecursion Q xs
all_map P Q f [] h = tt
all_map P Q f (x ∷ xs) h = (f x h.0, all_map P Q f xs h.1)

pub all_both : {X : Type 0} (P : X → Type 0) (xs ys : List X) → AllByRecursion P xs → AllByRecursion P ys → AllByRecursion P (xs ++ ys)
all_both P [] ys h g = g
all_both P (x ∷ xs) ys h g = (h.0, all_both P xs ys h.1 g)

pub all_front : {X : Type 0} (P : X → Type 0) (xs ys : List X) → AllByRecursion P (xs ++ ys) → AllByRecursion P xs
all_front P [] ys h = tt
all_front P (x ∷ xs) ys h = (h.0, all_front P xs ys h.1)

pub all_back : {X : Type 0} (P : X → Type 0) (xs ys : List X) → AllByRecursion P (xs ++ ys) → AllByRecursion P ys
all_back P [] ys h = h
all_back P (x ∷ xs) ys h = all_back P xs ys h.1

pub filter_all : {X : Type 0} (q : X → Bool) (b : Bool) (xs : List X) → AllByRecursion (λ x. q x ≡ b) xs → filter q xs ≡ cond b xs []
filter_all q true [] h = refl
filter_all q false [] h = refl
filter_all q true (x ∷ xs) h = ap (λ b. cond b (x ∷ filter q xs) (filter q xs)) h.0 ∙ ap (λ ys. x ∷ ys) (filter_all q true xs h.1)
filter_all q false (x ∷ xs) h = ap (λ b. cond b (x ∷ filter q xs) (filter q xs)) h.0 ∙ filter_all q false xs h.1

-- of a test of two parts the second one may come after
and_one : {X : Type 0} (p q : X → Bool) (x : X) (xs : List X) (a : Bool) → p x ≡ a → filter (λ y. p y && q y) xs ≡ filter q (filter p xs) →
    cond (a && q x) (x ∷ filter (λ y. p y && q y) xs) (filter (λ y. p y && q y) xs) ≡ filter q (cond a (x ∷ filter p xs) (filter p xs))
and_one p q x xs true e h = ap (λ ys. cond (q x) (x ∷ ys) ys) h
and_one p q x xs false e h = h

pub filter_both : {X : Type 0} (p q : X → Bool) (xs : List X) → filter (λ y. p y && q y) xs ≡ filter q (filter p xs)
filter_both p q [] = refl
filter_both p q (x ∷ xs) = and_one p q x xs (p x) refl (filter_both p q xs)

pub all_filtered : {X : Type 0} (P : X → Type 0) (q : X → Bool) (xs : List X) → AllByRecursion P xs → AllByRecursion P (filter q xs)
all_filtered P q [] h = tt
all_filtered P q (x ∷ xs) h = elim (q x) as (λ b. AllByRecursion P (cond b (x ∷ filter q xs) (filter q xs))) [ true ↦ (h.0, all_filtered P q xs h.1) | false ↦ all_filtered P q xs h.1 ]
