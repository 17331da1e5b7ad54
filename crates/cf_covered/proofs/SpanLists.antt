-- Numbers that a list of spans takes or lacks.
use Rattle.std.proofs.Common.{◌≡◌, ◌+◌, ℕ, ◌<◌, ◌≤◌, length, take, get_or, ℤ, ◌≤ℤ◌, ◌<ℤ◌, true, false, List, [], ◌∷◌, Option, Some, None, refl, subst, arith}
use Rattle.std.specs.List.{All, Contains, list_any}
use Rattle.std.proofs.lemmas.Int.{ints}
use Rattle.std.proofs.lemmas.Bool.Decides.{nat_tests}
use Rattle.std.proofs.lemmas.List.{take_all}
use Rattle.std.proofs.lemmas.List.Elements.{All-head, All-more, All-tail, All-weaker}
use Rattle.std.proofs.lemmas.List.Folds.{list_any_at}
use Rattle.cf_policy.specs.declared.policy.Span.{Span}
use Rattle.cf_policy.specs.Verdict.{covers, takes, takes_value}
use Rattle.cf_covered.specs.Common.{some_overlap, lists_overlap}

takes_some : (spans : List Span) (n : ℤ) → list_any (λ t. covers t n) spans ≡ true → takes spans n ≡ true
takes_some [] n h = refl
takes_some (s ∷ ss) n h = h

-- a list with a span that has a number takes the numbers from that one up to the span's end
pub taken_to : (spans : List Span) (first : Span) (low high n : ℤ) → Contains spans first → covers first low ≡ true → high ≤ℤ first.high
    → covers (record { low = low; high = high }) n ≡ true → takes spans n ≡ true
taken_to spans first low high n c at end h =
    takes_some spans n (list_any_at (λ t. covers t n) spans c.0 first c.1 (rw c.2 (grind (arith, ints, nat_tests))))

spans_lack : (spans : List Span) (low high n : ℤ) → list_any (λ t. covers t low) spans ≡ false → All (λ s. low <ℤ s.low → high <ℤ s.low) spans
    → covers (record { low = low; high = high }) n ≡ true → list_any (λ t. covers t n) spans ≡ false
spans_lack [] low high n lack next h = refl
spans_lack (s ∷ ss) low high n lack next h =
    let here = All-head (λ q. low <ℤ q.low → high <ℤ q.low) s ss next in
    let more : list_any (λ t. covers t low) ss ≡ false → list_any (λ t. covers t n) ss ≡ false =
    λ others. spans_lack ss low high n others (All-tail (λ q. low <ℤ q.low → high <ℤ q.low) s ss next) h in
    grind (arith, ints, nat_tests, here, more)

-- a list lacks the numbers from one that it lacks up to the next at which a span begins
pub lacked_to : (spans : List Span) (low high n : ℤ) → takes spans low ≡ false → All (λ s. low <ℤ s.low → high <ℤ s.low) spans
    → covers (record { low = low; high = high }) n ≡ true → takes spans n ≡ false
lacked_to [] low high n lack next h = lack
lacked_to (s ∷ ss) low high n lack next h = spans_lack (s ∷ ss) low high n lack next h

some_common : (spans : List Span) (s : Span) (n : ℤ) → covers s n ≡ true → list_any (λ t. covers t n) spans ≡ true → some_overlap spans s ≡ true
some_common [] s n h k = k
some_common (t ∷ ts) s n h k = let more = some_common ts s n in grind (arith, ints, nat_tests)

any_common : (a b : List Span) (n : ℤ) → list_any (λ s. covers s n) a ≡ true → list_any (λ t. covers t n) b ≡ true → list_any (λ s. some_overlap b s) a ≡ true
any_common [] b n h k = h
any_common (s ∷ ss) b n h k = let here = some_common b s n in let more = any_common ss b n in grind arith

-- lists that take a number in common overlap
pub lists_common : (a b : List Span) (n : ℤ) → takes a n ≡ true → takes b n ≡ true → lists_overlap a b ≡ true
lists_common [] b n h k = refl
lists_common (s ∷ ss) [] n h k = refl
lists_common (s ∷ ss) (t ∷ ts) n h k = any_common (s ∷ ss) (t ∷ ts) n h k

pub values_common : (a b : List Span) (v : Option ℤ) → takes_value a v ≡ true → takes_value b v ≡ true → lists_overlap a b ≡ true
values_common [] b v h k = refl
values_common (s ∷ ss) [] v h k = refl
values_common (s ∷ ss) (t ∷ ts) None h k = grind arith
values_common (s ∷ ss) (t ∷ ts) (Some n) h k = any_common (s ∷ ss) (t ∷ ts) n h k

-- one more span, before which a number at or below the earlier one lies
pub one_more_before : (spans : List Span) (i : ℕ) (d : Span) (low high next : ℤ) → i < length spans
    → All (λ s. low <ℤ s.low → high <ℤ s.low) (take i spans) → next ≤ℤ high → (low <ℤ (get_or spans i d).low → next <ℤ (get_or spans i d).low)
    → All (λ s. low <ℤ s.low → next <ℤ s.low) (take (i + 1) spans)
one_more_before spans i d low high next inside before above here =
    All-more (λ s. low <ℤ s.low → next <ℤ s.low) spans i d inside
    (All-weaker (λ s. low <ℤ s.low → high <ℤ s.low) (λ s. low <ℤ s.low → next <ℤ s.low) (λ s h l. let far = h l in grind (arith, ints, far, above)) (take i spans) before)
    here

pub all_before : (spans : List Span) (i : ℕ) (low high : ℤ) → length spans ≤ i → All (λ s. low <ℤ s.low → high <ℤ s.low) (take i spans)
    → All (λ s. low <ℤ s.low → high <ℤ s.low) spans
all_before spans i low high end before = subst (All (λ s. low <ℤ s.low → high <ℤ s.low)) (take_all i spans end) before
