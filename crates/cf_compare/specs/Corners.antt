-- Steps of the proof: a list of the corners of an axis: `AreCorners`.
use Rattle.std.specs.Prelude.{◌≡◌, ℤ, List}
use Rattle.std.specs.Set.{is_member}
use Rattle.std.specs.Ordering.{int_eq, int_cmp}
use Rattle.std.specs.List.Sorted.{IsStrictlySortedBy}
use Rattle.cf_policy.specs.declared.policy.Rule.{Rule}
use Rattle.cf_compare.specs.declared.axis.Axis.{Axis}
use Rattle.cf_compare.specs.declared.axis.Axis.TheVariants.{Clients, Groups, Points, Values}
use Rattle.cf_compare.specs.declared.corners.Corners.{Corners}
use Rattle.cf_compare.specs.Cells.{stated_spans, corner_numbers}

-- ascending, and exactly the corners
pub record AreCorners (axis : Axis) (rules : List Rule) (corners : List ℤ) : Type 0 where
  pub ascending : IsStrictlySortedBy int_cmp corners
  pub exact : (n : ℤ) → is_member int_eq corners n ≡ is_member int_eq (corner_numbers axis (stated_spans axis rules)) n

pub record AreAllCorners (rules : List Rule) (corners : Corners) : Type 0 where
  pub clients : AreCorners Clients rules corners.clients.items
  pub groups : AreCorners Groups rules corners.groups.items
  pub points : AreCorners Points rules corners.points.items
  pub values : AreCorners Values rules corners.values.items
