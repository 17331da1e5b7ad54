-- Positions that are places.
use Rattle.std.proofs.Common.{◌≡◌, ℕ, ℤ, pos, negsuc, ◌≤ℤ◌, refl, arith}
use Rattle.std.proofs.lemmas.Int.{ints}
use Rattle.cf_stream.specs.Position.{place_or_zero}

-- a position that is not below a place is a place
pub place_or_zero_from : (a : ℕ) (z : ℤ) → pos a ≤ℤ z → z ≡ pos (place_or_zero z)
place_or_zero_from a (pos n) h = refl
place_or_zero_from a (negsuc n) h = absurd (omega (arith, ints, h))
