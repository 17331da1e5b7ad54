-- What stands at a place of a table is whether the list takes the corner of that place.
use Rattle.std.proofs.Common.{◌≡◌, ◌∙◌, sym, ap, ℕ, zero, suc, ℤ, Bool, List, [], ◌∷◌, map, take, Some, None}
use Rattle.std.specs.Prelude.{slice_get}
use Rattle.cf_policy.specs.declared.policy.Rule.{Rule}
use Rattle.cf_compare.specs.declared.axis.Axis.{Axis}
use Rattle.cf_compare.specs.declared.axis.Axis.TheVariants.{Clients, Groups, Points, Values}
use Rattle.cf_compare.specs.declared.corners.Corners.{Corners}
use Rattle.cf_compare.specs.declared.rows.Tables.{Tables}
use Rattle.cf_compare.specs.Cells.{axis_spans}
use Rattle.cf_compare.specs.Tables.{corners_at, table_at, table_of, AreTablesFor}

pub at_table : (f : ℤ → Bool) (most : ℕ) (corners : List ℤ) (place : ℕ) (corner : ℤ) (taken : Bool)
    → slice_get corners place ≡ Some corner → slice_get (map f (take most corners)) place ≡ Some taken → taken ≡ f corner
at_table f most [] place corner taken h k = absurd (let bad : None ≡ Some corner = h in cc)
at_table f zero (x ∷ xs) place corner taken h k = absurd (let bad : None ≡ Some taken = k in cc)
at_table f (suc most) (x ∷ xs) zero corner taken h k =
    let same : x ≡ corner = cc in
    let here : f x ≡ taken = cc in
    sym here ∙ ap f same
at_table f (suc most) (x ∷ xs) (suc place) corner taken h k = at_table f most xs place corner taken h k

pub table_for : (axis : Axis) (rule : Rule) (corners : Corners) (tables : Tables) → AreTablesFor rule corners tables
    → table_at axis tables ≡ table_of (axis_spans axis rule) (corners_at axis corners)
table_for Clients rule corners tables are = are.clients
table_for Groups rule corners tables are = are.groups
table_for Points rule corners tables are = are.points
table_for Values rule corners tables are = are.values
