-- Steps of the proof: acts that differ in the point alone: `HasOneVerdict`; and in the value: `TakesAnyValue`.
use Rattle.std.specs.Prelude.{◌≡◌, ◌&&◌, ℕ, ◌≤◌, ℤ, Bool, Option, not, pos}
use Rattle.std.specs.List.{list_any}
use Rattle.cf_view.specs.declared.base.Act.{Act}
use Rattle.cf_policy.specs.declared.policy.Asset.{Asset}
use Rattle.cf_policy.specs.declared.policy.Verdict.{Verdict}
use Rattle.cf_policy.specs.Verdict.{is_empty, takes, verdict_of}

-- the act at another point
abbrev pub at_point : Act → ℕ → Act
at_point act point = record act { point = point }

-- the act at each point from its own to the last has the verdict
abbrev pub HasOneVerdict : Asset → ℕ → Act → ℕ → Verdict → Type 0
HasOneVerdict asset client act last verdict =
    (point : ℕ) → act.point ≤ point → point ≤ last → verdict_of asset client (at_point act point) ≡ verdict

-- the act with another value, or with none
abbrev pub with_value : Act → Option ℤ → Act
with_value act value = record act { value = value }

-- the verdict about an act of the code does not depend on its value
abbrev pub TakesAnyValue : Asset → ℕ → ℕ → Type 0
TakesAnyValue asset client code =
    (act : Act) (value : Option ℤ) → act.code ≡ code → verdict_of asset client (with_value act value) ≡ verdict_of asset client act

-- a rule of the client and the code states values
abbrev pub some_states_values : Asset → (client code : ℕ) → Bool
some_states_values asset client code = list_any (λ r. (takes r.clients (pos client) && takes r.codes (pos code)) && not (is_empty r.values))
    asset.rules

-- the test says the same of each point from the first to the last
abbrev pub IsSteady : (ℕ → Bool) → (first last : ℕ) → Type 0
IsSteady test first last = (point : ℕ) → first ≤ point → point ≤ last → test point ≡ test first
