-- Codes of a list that has none above 31.
use Rattle.std.proofs.Common.{◌≡◌, ℕ, ◌<◌, pos, int_le, not, ◌&&◌, true, List, [], ◌∷◌, arith}
use Rattle.std.specs.List.{list_any, list_all}
use Rattle.std.proofs.lemmas.Int.{ints}
use Rattle.std.proofs.lemmas.Bool.Decides.{nat_tests}
use Rattle.cf_policy.specs.declared.policy.Span.{Span}
use Rattle.cf_policy.specs.Verdict.{covers, is_empty, takes}

some_low : (spans : List Span) (n : ℕ) → list_all (λ s. int_le s.high (pos 31)) spans ≡ true → list_any (λ s. covers s (pos n)) spans ≡ true → n < 32
some_low [] n low has = grind arith
some_low (s ∷ ss) n low has = let more = some_low ss n in grind (arith, ints, nat_tests)

pub low_taken : (spans : List Span) (n : ℕ) → (not (is_empty spans) && list_all (λ s. int_le s.high (pos 31)) spans) ≡ true → takes spans (pos n) ≡ true → n < 32
low_taken [] n low has = grind arith
low_taken (s ∷ ss) n low has = some_low (s ∷ ss) n low has
