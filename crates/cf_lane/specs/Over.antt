-- When what was used counts no more: `are_over`.
use Rattle.cf_lane.specs.Ring.{RingValue}
use Rattle.cf_policy.specs.declared.Rate.{Rate}
use Rattle.std.specs.List.{list_all}
use Rattle.std.specs.Prelude.{Bool, List, count_by, nat_eq, nat_lt, ℕ, ◌*◌, ◌+◌}

-- of these moments none lies less than the rate's time before a moment, or after it
abbrev pub is_over : Rate → (moment : ℕ) → List ℕ → Bool
is_over rate moment moments = nat_eq (count_by (λ t. nat_lt moment (t + rate.seconds * 1000000)) moments) 0

-- so it is of each ring of an asset
abbrev pub own_are_over : (moment : ℕ) → List RingValue → Bool
own_are_over moment rings = list_all (λ r. is_over r.rate moment r.moments) rings

-- and of each asset of a site
abbrev pub are_over : (moment : ℕ) → List (List RingValue) → Bool
are_over moment all = list_all (λ rings. own_are_over moment rings) all
