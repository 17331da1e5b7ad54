-- The rules whose commands are written to the log: is_logged.
use Rattle.std.specs.Prelude.{ℕ, Bool, false, List, slice_get}
use Rattle.std.specs.Option.{option_map_or}
use Rattle.cf_policy.specs.declared.policy.Rule.{Rule}

-- the rule of this number, counted from 0, writes what it admits to the log
abbrev pub is_logged : List Rule → (number : ℕ) → Bool
is_logged rules number = option_map_or (λ r. r.log) (slice_get rules number) false
