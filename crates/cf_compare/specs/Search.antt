-- Steps of the proof: what each part of the search computes: `first_cell`, read from the end. Inclusion says what is searched for.
use Rattle.std.specs.Prelude.{ℤ, Bool, false, not, ◌&&◌, if◌then◌else◌, List, [], ◌∷◌, filter, find, Option, Some, None, option_map}
use Rattle.std.specs.Option.{option_map_or, option_or}
use Rattle.cf_policy.specs.declared.policy.Rule.{Rule}
use Rattle.cf_policy.specs.Verdict.{takes, takes_value, is_allow}
use Rattle.cf_compare.specs.declared.axis.Axis.{Axis}
use Rattle.cf_compare.specs.declared.axis.Axis.TheVariants.{Clients, Groups, Points}
use Rattle.cf_compare.specs.declared.corners.Cell.{Cell}
use Rattle.cf_compare.specs.Cells.{axis_spans}

abbrev pub takes_on : Axis → ℤ → Rule → Bool
takes_on axis n r = takes (axis_spans axis r) n

abbrev pub rules_taking : Axis → ℤ → List Rule → List Rule
rules_taking axis n rules = filter (takes_on axis n) rules

-- the first of the rules that takes the value allows it
abbrev pub allowed_by : List Rule → Option ℤ → Bool
allowed_by rules value = option_map_or (λ r. is_allow r.action) (find (λ r. takes_value r.values value) rules) false

-- the first rules allow the value, and the others do not
abbrev pub differs : List Rule → List Rule → Option ℤ → Bool
differs ours other value = allowed_by ours value && not (allowed_by other value)

-- no value, or the first of the numbers, at which they differ
abbrev pub first_value : List Rule → List Rule → List ℤ → Option (Option ℤ)
first_value ours other values =
    if differs ours other None then Some None
    else option_map (λ n. Some n) (find (λ n. differs ours other (Some n)) values)

-- what the first item gives that gives something
abbrev pub first_some : {A B : Type 0} → (A → Option B) → List A → Option B
first_some f [] = None
first_some f (x ∷ xs) = option_or (f x) (first_some f xs)

-- the first value of a point
abbrev pub point_value : List Rule → List Rule → List ℤ → ℤ → Option (Option ℤ)
point_value ours other values point = first_value (rules_taking Points point ours) (rules_taking Points point other) values

-- the cell of a client, a group and a point
abbrev pub cell_at : ℤ → ℤ → ℤ → Option ℤ → Cell
cell_at client group point value = record { client = client; group = group; point = point; value = value }

abbrev pub point_cell : ℤ → ℤ → List Rule → List Rule → List ℤ → ℤ → Option Cell
point_cell client group ours other values point = option_map (cell_at client group point) (point_value ours other values point)

-- the first cell of a group
abbrev pub group_cell : ℤ → List Rule → List Rule → List ℤ → List ℤ → ℤ → Option Cell
group_cell client ours other points values group =
    first_some (point_cell client group (rules_taking Groups group ours) (rules_taking Groups group other) values) points

-- the first cell of a client
abbrev pub client_cell : List Rule → List Rule → List ℤ → List ℤ → List ℤ → ℤ → Option Cell
client_cell ours other groups points values client =
    first_some (group_cell client (rules_taking Clients client ours) (rules_taking Clients client other) points values) groups

-- the first cell that the first rules allow and the others do not
abbrev pub first_cell : List Rule → List Rule → List ℤ → List ℤ → List ℤ → List ℤ → Option Cell
first_cell ours other clients groups points values =
    first_some (client_cell ours other groups points values) clients
