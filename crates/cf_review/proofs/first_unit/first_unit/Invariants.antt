use Rattle.std.proofs.Common.{◌<◌, ℕ, drop}
use Rattle.cf_review.specs.FirstUnit.{UnitBegins}
use Rattle.cf_review.proofs.first_unit.first_unit.Given as goal

abbrev pub invariant-loop-place : goal.invariant-loop-place
invariant-loop-place l = (k : ℕ) → k < l.place → UnitBegins l.protocol (drop k l.bytes) → ⊥
