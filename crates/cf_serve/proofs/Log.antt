-- A log that is gone on with ends with a line.
use Rattle.std.proofs.Common.{Bool, List, ap, arith, length, refl, suc, sym, true, false, ℕ, ◌++◌, ◌-◌, ◌∙◌, ◌∷◌, ◌≡◌, if◌then◌else◌, []}
use Rattle.std.specs.Prelude.{slice_get, unwrap_or, ◌==◌}
use Rattle.std.proofs.lemmas.List.{append-nil}
use Rattle.cf_outside.specs.Files.{Content, absent, content_gone_on, holds, untold}
use Rattle.cf_outside.specs.Lines.{ends_with_line, is_nothing, rest_from}

abbrev last_of : List ℕ → ℕ
last_of xs = unwrap_or (slice_get xs (length xs - 1)) 10

either : (b : Bool) (xs ys zs : List ℕ) → xs ≡ zs → ys ≡ zs → (if b then xs else ys) ≡ zs
either true xs ys zs p q = p
either false xs ys zs p q = q

rest_feed : (part xs : List ℕ) → rest_from part (xs ++ 10 ∷ []) ≡ []
rest_feed part [] = refl
rest_feed part (x ∷ xs) = either (x == 10) (rest_from [] (xs ++ 10 ∷ [])) (rest_from (part ++ x ∷ []) (xs ++ 10 ∷ [])) [] (rest_feed [] xs) (rest_feed (part ++ x ∷ []) xs)

last_later : (x y : ℕ) (ys : List ℕ) → last_of (x ∷ y ∷ ys) ≡ last_of (y ∷ ys)
last_later x y ys =
    let e : length (x ∷ y ∷ ys) - 1 ≡ suc (length (y ∷ ys) - 1) = omega arith in
    ap (λ n. unwrap_or (slice_get (x ∷ y ∷ ys) n) 10) e

rest_last : (part : List ℕ) (x : ℕ) (xs : List ℕ) → (last_of (x ∷ xs) == 10) ≡ true → rest_from part (x ∷ xs) ≡ []
rest_last part x [] h = ap (λ (b : Bool). if b then [] else part ++ x ∷ []) h
rest_last part x (y ∷ ys) h =
    let l : (last_of (y ∷ ys) == 10) ≡ true = ap (λ n. n == 10) (sym (last_later x y ys)) ∙ h in
    either (x == 10) (rest_from [] (y ∷ ys)) (rest_from (part ++ x ∷ []) (y ∷ ys)) [] (rest_last [] y ys l) (rest_last (part ++ x ∷ []) y ys l)

rest_gone : (all : List ℕ) (b : Bool) → (last_of all == 10) ≡ b → rest_from [] (all ++ (if b then [] else 10 ∷ [])) ≡ []
rest_gone [] true e = refl
rest_gone (x ∷ xs) true e = ap (rest_from []) (append-nil (x ∷ xs)) ∙ rest_last [] x xs e
rest_gone all false e = rest_feed [] all

pub gone_on_ends : (file : Content) → ends_with_line (content_gone_on file) ≡ true
gone_on_ends untold = refl
gone_on_ends absent = refl
gone_on_ends (holds all) = ap is_nothing (rest_gone all (last_of all == 10) refl)
