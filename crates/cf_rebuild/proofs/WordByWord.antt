-- Marks that are set or taken word by word.
use Rattle.std.proofs.Common.{◌≡◌, ℕ, ◌<◌, ◌≤◌, ◌⊎◌, List, arith}
use Rattle.std.proofs.lemmas.Bool.{cases_lt}
use Rattle.cf_rebuild.specs.Ring.{marked}
use Rattle.std.proofs.lemmas.Grind.{common_steps}

-- the slots from `from` on and below `slot` have the mark m, and then those below `next` get it too
module _ (before after : List ℕ) (m from slot next : ℕ)
    (here : (s : ℕ) → slot ≤ s → s < next → marked after s ≡ m)
    (others : (s : ℕ) → (s < slot) ⊎ (next ≤ s) → marked after s ≡ marked before s) where
  pub inside_on : ((s : ℕ) → from ≤ s → s < slot → marked before s ≡ m) → (s : ℕ) → from ≤ s → s < next → marked after s ≡ m
  inside_on done s lo hi = grind (arith, common_steps, cases_lt)

  pub outside_on : (first : List ℕ) → from ≤ slot → slot ≤ next → ((s : ℕ) → (s < from) ⊎ (slot ≤ s) → marked before s ≡ marked first s) →
      (s : ℕ) → (s < from) ⊎ (next ≤ s) → marked after s ≡ marked first s
  outside_on first begun goes done s out = grind (arith, common_steps)
