-- What a number stands for, and which front is covered.
use Rattle.std.proofs.Common.{◌≡◌, ℕ, zero, suc, ◌+◌, ◌<◌, ◌≤◌, true, List, [], ◌∷◌, length, take, arith, count_by}
use Rattle.std.proofs.lemmas.Bool.Decides.{nat_tests}
use Rattle.cf_renumber.specs.declared.mark.FrameFate.{FrameFate}
use Rattle.cf_renumber.specs.declared.mark.FrameFate.TheVariants as fates
use Rattle.cf_renumber.specs.Counts.{IsCountOf, count_from, is_counted, is_admitted, covered_by}
use Rattle.cf_renumber.proofs.Lists.{one_more}
use Rattle.std.proofs.lemmas.Grind.{common_steps}

pub count_is : (low high number count : ℕ) → high < low + 32768 → IsCountOf low high number count → count ≡ count_from low number
count_is low high number count h k = omega (arith, k.at_least, k.at_most, k.agrees)

pub counted : (low high number count : ℕ) → high < low + 32768 → IsCountOf low high number count → is_counted low high number ≡ true
counted low high number count h k = grind (arith, nat_tests, common_steps, count_is)

pub is_count : (low high number : ℕ) → is_counted low high number ≡ true → IsCountOf low high number (count_from low number)
is_count low high number e = grind (arith, nat_tests, common_steps)

pub covered-few : (m : ℕ) (frames : List FrameFate) → count_by is_admitted (take (covered_by m frames) frames) ≤ m
covered-few m [] = omega arith
covered-few m (fates.Refused ∷ frames) = covered-few m frames
covered-few zero (fates.Admitted ∷ frames) = omega arith
covered-few (suc m) (fates.Admitted ∷ frames) = omega (arith, covered-few m frames, one_more (take (covered_by m frames) frames))

pub covered-most : (m j : ℕ) (frames : List FrameFate) → j ≤ length frames → count_by is_admitted (take j frames) ≤ m → j ≤ covered_by m frames
covered-most m j [] l h = l
covered-most m zero (f ∷ frames) l h = omega arith
covered-most m (suc j) (fates.Refused ∷ frames) l h = omega (arith, covered-most m j frames (omega arith) h)
covered-most zero (suc j) (fates.Admitted ∷ frames) l h = absurd (omega (arith, one_more (take j frames), h))
covered-most (suc m) (suc j) (fates.Admitted ∷ frames) l h =
    omega (arith, covered-most m j frames (omega arith) (omega (arith, one_more (take j frames), h)))
