-- Steps of the proof: acts of a command that are judged together: `HaveVerdict` and `AreRun`.
use Rattle.cf_lane.specs.Rates.{Says}
use Rattle.cf_policy.specs.declared.Verdict.{Verdict}
use Rattle.cf_view.specs.declared.Act.{Act}
use Rattle.std.specs.Prelude.{Bool, List, Option, Some, false, slice_get, ℕ, ℤ, ◌+◌, ◌-◌, ◌<◌, ◌≡◌, ◌≤◌}

-- the one verdict of the acts from a place up to another one, which is not among them
abbrev pub HaveVerdict : Says → List Act → (from to : ℕ) → Verdict → Type 0
HaveVerdict says acts from to verdict = (j : ℕ) (act : Act) → from ≤ j → j < to → slice_get acts j ≡ Some act → says act ≡ verdict

-- acts from one place to another, both included, on points that follow each other; they differ from the act in nothing
-- else, or in the value as well, where that is left open
abbrev pub AreRun : List Act → (first last : ℕ) → Act → (open_value : Bool) → Type 0
AreRun acts first last act open_value =
    (j : ℕ) → first ≤ j → j ≤ last
    → (value : Option ℤ) × (slice_get acts j
    ≡ Some (record { code = act.code; group = act.group; point = act.point + (j - first); value = value }))
    × (open_value ≡ false → value ≡ act.value)
