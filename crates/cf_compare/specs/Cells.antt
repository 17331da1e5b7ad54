-- How many cells the rules of two assets make of clients, groups, points and values: cells_of.
use Rattle.std.specs.Prelude.{ℕ, suc, zero, ◌+◌, ◌*◌, min, ℤ, pos, ◌+ℤ◌, int_le, Bool, ◌&&◌, List, [], ◌∷◌, ◌++◌, filter}
use Rattle.std.specs.List.{flat_map}
use Rattle.std.specs.Set.{distinct_count}
use Rattle.std.specs.Ordering.{int_eq}
use Rattle.cf_policy.specs.declared.policy.Span.{Span}
use Rattle.cf_policy.specs.declared.policy.Rule.{Rule}
use Rattle.cf_policy.specs.declared.policy.Asset.{Asset}
use Rattle.cf_policy.specs.Verdict.{takes}
use Rattle.cf_policy.specs.Within.{highest_address, highest_group, highest_point, lowest_value, highest_value}
use Rattle.cf_compare.specs.declared.axis.Axis.{Axis}
use Rattle.cf_compare.specs.declared.axis.Axis.TheVariants.{Clients, Groups, Points, Values}
use Rattle.cf_compare.specs.declared.count.TheConstants.{CODES, MOST_CELLS}

-- the cells that are compared at most
abbrev pub most_cells : ℕ
most_cells = MOST_CELLS

-- the range of each axis
abbrev pub lowest : Axis → ℤ
lowest Clients = pos 0
lowest Groups = pos 0
lowest Points = pos 0
lowest Values = lowest_value

-- the greatest number on an axis
abbrev pub highest : Axis → ℤ
highest Clients = highest_address
highest Groups = highest_group
highest Points = highest_point
highest Values = highest_value

-- what a rule states on an axis
abbrev pub axis_spans : Axis → Rule → List Span
axis_spans Clients r = r.clients
axis_spans Groups r = r.groups
axis_spans Points r = r.points
axis_spans Values r = r.values

-- the rule's codes have this code
abbrev pub has_code : ℕ → Rule → Bool
has_code code r = takes r.codes (pos code)

-- all that rules state on an axis
abbrev pub stated_spans : Axis → List Rule → List Span
stated_spans axis rules = flat_map (axis_spans axis) rules

-- the place at which a span begins, and the one at which it has ended
abbrev pub turns : Span → List ℤ
turns s = s.low ∷ (s.high +ℤ pos 1) ∷ []

-- the number lies on the axis
abbrev pub is_on : Axis → ℤ → Bool
is_on axis n = int_le (lowest axis) n && int_le n (highest axis)

-- the corners of an axis, some of them more than once: its least number, and where the spans begin and have ended
abbrev pub corner_numbers : Axis → List Span → List ℤ
corner_numbers axis spans = filter (is_on axis) (lowest axis ∷ flat_map turns spans)

-- the number of corners, each counted once
abbrev pub corner_count : Axis → List Rule → ℕ
corner_count axis rules = distinct_count int_eq (corner_numbers axis (stated_spans axis rules))

-- the cells of rules of one code: a corner of each axis, where no value is one more corner
abbrev pub rule_cells : List Rule → ℕ
rule_cells rules = ((corner_count Clients rules * corner_count Groups rules) * corner_count Points rules) * (corner_count Values rules + 1)

-- the cells of a code: those of the rules of both assets that have it
abbrev pub code_cells : Asset → Asset → ℕ → ℕ
code_cells ours other code = rule_cells (filter (has_code code) ours.rules ++ filter (has_code code) other.rules)

-- the sum over the numbers below one
unfoldable pub sum_below : (ℕ → ℕ) → ℕ → ℕ
sum_below f zero = 0
sum_below f (suc n) = sum_below f n + f n

-- the cells of all codes; one more than the most, where they are more than that
abbrev pub cells_of : Asset → Asset → ℕ
cells_of ours other = min (sum_below (code_cells ours other) CODES) (most_cells + 1)
