-- Files that grow.
use Rattle.std.proofs.Common.{◌≡◌, ◌+◌, ◌-◌, ℕ, List, [], ◌++◌, length, min, take, drop, refl, sym, ap, append_assoc, arith, inl, inr, ◌∙◌}
use Rattle.std.proofs.lemmas.List.{append-nil, length-append, length-take, take-append-le, take-take, take_all}
use Rattle.std.proofs.lemmas.Bool.{cases_lt}
use Rattle.std.proofs.Math.Seq.{take-add, take-append-add}
use Rattle.cf_outside.specs.Files.{Appends, Content, untold, absent, holds, with_appended, HasAt, IsAtEnd, IsWhole, BeginsWith}
use Rattle.cf_outside.specs.declared.files.WriteAnswer.{WriteAnswer}
use Rattle.cf_outside.specs.declared.files.WriteAnswer.TheVariants as write

-- bytes and then more bytes are one append
pub with_appended-twice : (c : Content) (a b : List ℕ) → with_appended (with_appended c a) b ≡ with_appended c (a ++ b)
with_appended-twice untold a b = refl
with_appended-twice absent a b = refl
with_appended-twice (holds all) a b = ap holds (append_assoc all a b)

-- no bytes change nothing
pub with_appended-nothing : (c : Content) → with_appended c [] ≡ c
with_appended-nothing untold = refl
with_appended-nothing absent = refl
with_appended-nothing (holds all) = ap holds (append-nil all)

-- a prefix and then a prefix of what follows are a longer prefix
pub with_appended-piece : (c : Content) (xs : List ℕ) (at count : ℕ) →
    with_appended (with_appended c (take at xs)) (take count (drop at xs)) ≡ with_appended c (take (at + count) xs)
with_appended-piece c xs at count = rw (with_appended-twice, ← take-add at count xs) refl

pub ruleset append_laws = (with_appended-twice, with_appended-nothing, with_appended-piece)

-- what was read so far, and what was read after it
pub begins_more : (c : Content) (xs piece : List ℕ) → BeginsWith c xs → HasAt c (length xs) piece → BeginsWith c (xs ++ piece)
begins_more untold xs piece begins here = tt
begins_more absent xs piece begins here = absurd here
begins_more (holds all) xs piece begins here = rw (length-append xs piece, take-add (length xs) (length piece) all, begins, here) refl

-- what was read so far is all where the file ends there
pub begins_all : (c : Content) (xs : List ℕ) (at : ℕ) → at ≡ length xs → BeginsWith c xs → IsAtEnd c at → IsWhole c xs
begins_all untold xs at is begins end = tt
begins_all absent xs at is begins end = absurd end
begins_all (holds all) xs at is begins end = sym begins ∙ take_all (length xs) all (omega (arith, is, end))

-- so many of the first of a list are its first
take-take_min : (k n : ℕ) (xs : List ℕ) → take k (take n xs) ≡ take (min k n) xs
take-take_min k n xs =
    elim (cases_lt n k) as (λ _. take k (take n xs) ≡ take (min k n) xs) [
      | inl above ↦
          let least : min k n ≡ n = omega arith in
          rw least (take_all k (take n xs) (omega (arith, length-take n xs)))
      | inr below ↦
          let least : min k n ≡ k = omega arith in
          rw least (take-take k n xs below)
    ]

-- a prefix and then some of the next piece are a prefix
pub with_appended-partly : (c d e : Content) (xs : List ℕ) (at count : ℕ) → d ≡ with_appended c (take at xs) →
    ((k : ℕ) × (e ≡ with_appended d (take k (take (at + count - at) (drop at xs))))) → (x : ℕ) × (e ≡ with_appended c (take x xs))
with_appended-partly c d e xs at count before (k, after) =
    (at + min k (at + count - at), rw (after, before, take-take_min, with_appended-piece) refl)

-- bytes appended in two pieces, the first of which was appended
pub appends_both : (c d e : Content) (xs ys : List ℕ) (answer : WriteAnswer) → Appends xs c d write.Done → Appends ys d e answer → Appends (xs ++ ys) c e answer
appends_both c d e xs ys write.Done first second = (first.0, second.1 ∙ ap (λ k. with_appended k ys) first.1 ∙ with_appended-twice c xs ys)
appends_both c d e xs ys write.Failed first second =
    let k = second.0 in
    (length xs + k, second.1 ∙ ap (λ x. with_appended x (take k ys)) first.1 ∙ with_appended-twice c xs (take k ys) ∙ ap (with_appended c) (sym (take-append-add xs ys k)))

-- a prefix of the first piece is one of both
pub appends_first : (c e : Content) (xs ys : List ℕ) → Appends xs c e write.Failed → Appends (xs ++ ys) c e write.Failed
appends_first c e xs ys first =
    let k = first.0 in
    let all : take (length xs) xs ≡ xs = take_all (length xs) xs (omega arith) in
    let same : take k xs ≡ take (min k (length xs)) (xs ++ ys) =
    ap (take k) (sym all) ∙ take-take_min k (length xs) xs ∙ sym (take-append-le (min k (length xs)) xs ys (omega arith)) in
    (min k (length xs), first.1 ∙ ap (with_appended c) same)
