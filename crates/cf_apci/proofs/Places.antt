-- The places of an APDU, and what is spelled at them.
use Rattle.std.proofs.Common.{◌≡◌, ℕ, zero, suc, ◌+◌, ◌%◌, ◌<◌, ◌≤◌, ◌==◌, ◌&&◌, ◌||◌, nat_le, max, if◌then◌else◌, Bool, true, false, List, [], ◌∷◌, ◌++◌, length, get_or, take, inl, inr, refl, sym, ◌∙◌, ap, arith, length-append}
use Rattle.std.proofs.Math.Seq.{get_or-append_seam}
use Rattle.std.proofs.lemmas.Bool.{cases_lt, le-ltb, lt-ltb}
use Rattle.std.proofs.lemmas.Bool.Decides.{nat_tests}
use Rattle.std.proofs.lemmas.List.{get_or_append_left, get_or-take, length-take-le}
use Rattle.cf_view.proofs.Places.{IsTold, GoesOn}
use Rattle.cf_apci.specs.Places.{size_of, is_format, is_second, is_third, is_fourth, is_right, follows}
use Rattle.std.proofs.lemmas.Grind.{common_steps}

size_short : (xs : List ℕ) → length xs < 2 → size_of xs ≡ 6
size_short xs h = rw (lt-ltb (length xs) 2 h) refl

pub size_long : (xs : List ℕ) → 2 ≤ length xs → size_of xs ≡ max 6 (get_or xs 1 0 + 2)
size_long xs h = rw (le-ltb (length xs) 2 h) refl

pub size_least : (xs : List ℕ) → 6 ≤ size_of xs
size_least xs =
    elim (cases_lt (length xs) 2) [ inl v ↦ omega (arith, size_short xs v) | inr v ↦ omega (arith, size_long xs v) ]

size_kept : (xs ys : List ℕ) → 2 ≤ length xs → size_of (xs ++ ys) ≡ size_of xs
size_kept xs ys h = grind (arith, common_steps, size_long, length-append, max, get_or_append_left)

pub told : IsTold size_of
told = grind (arith, common_steps, size_kept, size_least)

-- an octet that may follow
pub next : List ℕ → ℕ
next xs = if length xs == 0 then 0x68 else (if length xs == 1 then 4 else 0)

next_0 : (xs : List ℕ) → length xs ≡ 0 → next xs ≡ 0x68
unfolding next
next_0 xs h = rw h refl

next_1 : (xs : List ℕ) → length xs ≡ 1 → next xs ≡ 4
unfolding next
next_1 xs h = rw h refl

next_more : (xs : List ℕ) → 1 < length xs → next xs ≡ 0
unfolding next
next_more xs h = grind (arith, nat_tests)

pub six : (P : ℕ → Type 0) → P 0 → P 1 → P 2 → P 3 → P 4 → P 5 → ((k : ℕ) → 5 < k → P k) → (k : ℕ) → P k
six P a b c d e f more zero = a
six P a b c d e f more (suc zero) = b
six P a b c d e f more (suc (suc zero)) = c
six P a b c d e f more (suc (suc (suc zero))) = d
six P a b c d e f more (suc (suc (suc (suc zero)))) = e
six P a b c d e f more (suc (suc (suc (suc (suc zero))))) = f
six P a b c d e f more (suc (suc (suc (suc (suc (suc n)))))) = more (suc (suc (suc (suc (suc (suc n)))))) (omega arith)

or_true : (b : Bool) → b || true ≡ true
or_true true = refl
or_true false = refl

picked : (n : ℕ) (a b c d e f : Bool) → 5 < n →
    (if n == 0 then a else (if n == 1 then b else (if n == 2 then c else (if n == 3 then d else (if n == 4 then e else (if n == 5 then f else true)))))) ≡ true
picked n a b c d e f h = grind (arith, nat_tests)

pub past : (xs : List ℕ) (p octet : ℕ) → 5 < p → is_right xs p octet ≡ true
past xs p octet h =
    picked p (octet == 0x68) (nat_le 4 octet && nat_le octet 253) (is_format (get_or xs 1 0) octet) (is_second (get_or xs 2 0) octet) (is_third (get_or xs 2 0) octet) (is_fourth (get_or xs 2 0) octet) h

zero_third : (format : ℕ) → is_third format 0 ≡ true
zero_third format = elim ((format % 2 == 0) || (format == 1)) as (λ b. (if b then 0 % 2 == 0 else 0 == 0) ≡ true) [ true ↦ refl | false ↦ refl ]

next_right : (xs : List ℕ) (p : ℕ) → length xs ≡ p → is_right xs p (next xs) ≡ true
next_right xs = six (λ p. length xs ≡ p → is_right xs p (next xs) ≡ true)
    (λ h. ap (λ o. o == 0x68) (next_0 xs h))
    (λ h. ap (λ o. nat_le 4 o && nat_le o 253) (next_1 xs h))
    (λ h. ap (is_format (get_or xs 1 0)) (next_more xs (omega (arith, h))))
    (λ h. ap (is_second (get_or xs 2 0)) (next_more xs (omega (arith, h))) ∙ or_true (get_or xs 2 0 % 2 == 0))
    (λ h. ap (is_third (get_or xs 2 0)) (next_more xs (omega (arith, h))) ∙ zero_third (get_or xs 2 0))
    (λ h. ap (is_fourth (get_or xs 2 0)) (next_more xs (omega (arith, h)))
    ∙ ap (λ b. (get_or xs 2 0 % 2 == 0) || b) (or_true (get_or xs 2 0 == 1)) ∙ or_true (get_or xs 2 0 % 2 == 0))
    (λ p l h. past xs p (next xs) l)

next_octet : (xs : List ℕ) → next xs < 256
next_octet xs = grind (arith, nat_tests, common_steps, cases_lt, next_0, next_1, next_more)

next_keeps : (xs : List ℕ) → size_of (xs ++ next xs ∷ []) ≡ size_of xs
next_keeps xs =
    grind (arith, nat_tests, common_steps, next, length-append, cases_lt, size_short, size_long, max, get_or-append_seam, next_1, size_kept)

pub goes_on : GoesOn follows size_of next
goes_on = record { follows_on = λ xs o h. next_right xs (length xs) refl; octet = λ xs o h. next_octet xs; keeps = λ xs h. next_keeps xs }

-- what the first octets tell, a longer list of them tells
same_front : (xs : List ℕ) (octet p : ℕ) → is_right (take p xs) p octet ≡ is_right xs p octet
same_front xs octet = six (λ p. is_right (take p xs) p octet ≡ is_right xs p octet) refl refl
    (ap (λ n. is_format n octet) (get_or-take 2 xs 1 0 (omega arith)))
    (ap (λ n. is_second n octet) (get_or-take 3 xs 2 0 (omega arith)))
    (ap (λ n. is_third n octet) (get_or-take 4 xs 2 0 (omega arith)))
    (ap (λ n. is_fourth n octet) (get_or-take 5 xs 2 0 (omega arith)))
    (λ p h. past (take p xs) p octet h ∙ sym (past xs p octet h))

pub follows_front : (xs : List ℕ) (p octet : ℕ) → p ≤ length xs → follows (take p xs) octet ≡ is_right xs p octet
follows_front xs p octet h = ap (λ n. is_right (take p xs) n octet) (length-take-le p xs h) ∙ same_front xs octet p
