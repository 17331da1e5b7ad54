-- Steps of the proof: what a rule's tables say of the corners: `AreTablesFor`. Private functions alone cite it.
use Rattle.std.specs.Prelude.{◌≡◌, ℕ, ℤ, Bool, List, map, take}
use Rattle.cf_policy.specs.declared.policy.Span.{Span}
use Rattle.cf_policy.specs.declared.policy.Rule.{Rule}
use Rattle.cf_policy.specs.Verdict.{takes}
use Rattle.cf_compare.specs.declared.axis.Axis.{Axis}
use Rattle.cf_compare.specs.declared.axis.Axis.TheVariants.{Clients, Groups, Points, Values}
use Rattle.cf_compare.specs.declared.corners.Corners.{Corners}
use Rattle.cf_compare.specs.declared.rows.Tables.{Tables}
use Rattle.cf_compare.specs.declared.rows.TheConstants.{LONGEST_TABLE}

abbrev pub longest_table : ℕ
longest_table = LONGEST_TABLE

abbrev pub corners_at : Axis → Corners → List ℤ
corners_at Clients corners = corners.clients.items
corners_at Groups corners = corners.groups.items
corners_at Points corners = corners.points.items
corners_at Values corners = corners.values.items

abbrev pub table_at : Axis → Tables → List Bool
table_at Clients tables = tables.clients.items
table_at Groups tables = tables.groups.items
table_at Points tables = tables.points.items
table_at Values tables = tables.values.items

-- whether the list takes the first numbers
abbrev pub table_of : List Span → List ℤ → List Bool
table_of spans numbers = map (λ n. takes spans n) (take longest_table numbers)

-- for each axis, whether the rule takes its first corners
pub record AreTablesFor (rule : Rule) (corners : Corners) (tables : Tables) : Type 0 where
  pub clients : tables.clients.items ≡ table_of rule.clients corners.clients.items
  pub groups : tables.groups.items ≡ table_of rule.groups corners.groups.items
  pub points : tables.points.items ≡ table_of rule.points corners.points.items
  pub values : tables.values.items ≡ table_of rule.values corners.values.items
