-- The options of a block: there is one list of them.
use Rattle.std.proofs.Common.{◌≡◌, ℕ, zero, suc, ◌-◌, ◌<◌, ◌≤◌, ◌==◌, ◌&&◌, Bool, false, List, [], ◌∷◌, length, take, drop, Some, None, Option, refl, sym, ap, ◌∙◌, arith}
use Rattle.std.proofs.lemmas.List.{length-drop, take_all}
use Rattle.std.proofs.lemmas.Bool.Decides.{nat_tests}
use Rattle.cf_pcapng.specs.Options.{AreOptions, BlockOptionValue, HaveOneListOfOptions, first_option, options_of, options_within, resolution_of, with_first}

-- an option takes some of the octets
first_inside : (big : Bool) (xs : List ℕ) (o : BlockOptionValue) (size : ℕ) → first_option big xs ≡ Some (o, size) → (4 ≤ size) × (size ≤ length xs)
first_inside big xs o size e = grind (arith, nat_tests)

first_short : (big : Bool) (xs : List ℕ) → length xs < 4 → first_option big xs ≡ None
first_short big xs l = grind (arith, nat_tests)

enough_by : (n m : ℕ) (big : Bool) (xs : List ℕ) → length xs ≤ suc n → length xs ≤ suc m →
    ((ys : List ℕ) → length ys ≤ n → length ys ≤ m → options_within n big ys ≡ options_within m big ys) →
    (f : Option (BlockOptionValue × ℕ)) → first_option big xs ≡ f →
    with_first f (λ size. options_within n big (drop size xs)) ≡ with_first f (λ size. options_within m big (drop size xs))
enough_by n m big xs a b next None e = refl
enough_by n m big xs a b next (Some (o, size)) e =
    let inside = first_inside big xs o size e in
    ap (λ os. o ∷ os) (next (drop size xs) (omega (arith, inside, length-drop size xs)) (omega (arith, inside, length-drop size xs)))

-- a count that is great enough does not matter
within_enough : (n m : ℕ) (big : Bool) (xs : List ℕ) → length xs ≤ n → length xs ≤ m → options_within n big xs ≡ options_within m big xs
within_enough zero zero big xs a b = refl
within_enough zero (suc m) big xs a b = rw (first_short big xs (omega arith)) refl
within_enough (suc n) zero big xs a b = rw (first_short big xs (omega arith)) refl
within_enough (suc n) (suc m) big xs a b = enough_by n m big xs a b (within_enough n m big) (first_option big xs) refl

-- there is none
pub options_end : (big : Bool) (xs : List ℕ) → first_option big xs ≡ None → options_of big xs ≡ []
options_end big xs e =
    within_enough (length xs) (suc (length xs)) big xs (omega arith) (omega arith)
    ∙ ap (λ f. with_first f (λ size. options_within (length xs) big (drop size xs))) e

-- the first one, and those after it
pub options_step : (big : Bool) (xs : List ℕ) (o : BlockOptionValue) (size : ℕ) → first_option big xs ≡ Some (o, size) →
    options_of big xs ≡ o ∷ options_of big (drop size xs)
options_step big xs o size e =
    within_enough (length xs) (suc (length xs)) big xs (omega arith) (omega arith)
    ∙ ap (λ f. with_first f (λ size. options_within (length xs) big (drop size xs))) e
    ∙ ap (λ os. o ∷ os) (within_enough (length xs) (length (drop size xs)) big (drop size xs) (omega (arith, length-drop size xs)) (omega arith))

are_by : (n : ℕ) (big : Bool) (xs : List ℕ) → length xs ≤ suc n → ((ys : List ℕ) → length ys ≤ n → AreOptions big ys (options_within n big ys)) →
    (f : Option (BlockOptionValue × ℕ)) → first_option big xs ≡ f → AreOptions big xs (with_first f (λ size. options_within n big (drop size xs)))
are_by n big xs a next None e = e
are_by n big xs a next (Some (o, size)) e =
    let inside = first_inside big xs o size e in
    (size, e, next (drop size xs) (omega (arith, inside, length-drop size xs)))

are_within : (n : ℕ) (big : Bool) (xs : List ℕ) → length xs ≤ n → AreOptions big xs (options_within n big xs)
are_within zero big xs a = first_short big xs (omega arith)
are_within (suc n) big xs a = are_by n big xs a (are_within n big) (first_option big xs) refl

only_options : (big : Bool) (xs : List ℕ) (os : List BlockOptionValue) → AreOptions big xs os → os ≡ options_of big xs
only_options big xs [] e = sym (options_end big xs e)
only_options big xs (o ∷ os) (size, e, behind) =
    ap (λ rest. o ∷ rest) (only_options big (drop size xs) os behind) ∙ sym (options_step big xs o size e)

pub one_list_of_options : HaveOneListOfOptions
one_list_of_options big xs = (are_within (length xs) big xs (omega arith), only_options big xs)

-- after an option that does not say the unit of time, what is left says what all say
pub goes_on : (big : Bool) (xs : List ℕ) (o : BlockOptionValue) (size n said : ℕ) → Some (o, size) ≡ first_option big xs → length xs - size ≤ n →
    ((o.code == 9) && (length o.value == 1)) ≡ false → resolution_of (options_of big xs) ≡ said → resolution_of (options_of big (take n (drop size xs))) ≡ said
goes_on big xs o size n said e l other is =
    let whole : take n (drop size xs) ≡ drop size xs = take_all n (drop size xs) (omega (arith, length-drop size xs)) in
    let step : resolution_of (options_of big xs) ≡ resolution_of (options_of big (drop size xs)) =
    ap resolution_of (options_step big xs o size (sym e)) ∙ rw other refl in
    rw whole (sym step ∙ is)
