-- Values that may be missing, one after the other.
use Rattle.std.proofs.Common.{◌≡◌, ℕ, Bool, true, false, cond, Option, Some, None, refl}
use Rattle.std.specs.Option.{option_or}

pub or_none : {A : Type 0} (o : Option A) → option_or o None ≡ o
or_none None = refl
or_none (Some x) = refl

-- what was there at one test is not changed by the same test after it
pub later_same : (before : Option ℕ) (b : Bool) (m n : ℕ) → option_or (option_or before (cond b (Some m) None)) (cond b (Some n) None) ≡ option_or before (cond b (Some m) None)
later_same (Some k) b m n = refl
later_same None true m n = refl
later_same None false m n = refl
