use Rattle.std.proofs.Common.{◌≡◌, ◌∙◌, ap, subst, Some, rules}
use Rattle.std.specs.Prelude.{slice_get}
use Rattle.cf_policy.specs.Verdict.{takes}
use Rattle.cf_compare.specs.Tables.{longest_table}
use Rattle.cf_compare.proofs.Lookup.{at_table}
use Rattle.cf_compare.proofs.rows.takes_corner.Goals as goal

pub returns-in-Some-Some : goal.returns-in-Some-Some
returns-in-Some-Some c =
    let corner : slice_get c.args.corners.now c.args.place ≡ Some c.in-Some-Some.corner = search rules in
    let taken : slice_get c.args.table.now c.args.place ≡ Some c.in-Some-Some.taken = search rules in
    let same : c.in-Some-Some.corner ≡ c.args.number = search rules in
    at_table (takes c.args.spans.now) longest_table c.args.corners.now c.args.place c.in-Some-Some.corner c.in-Some-Some.taken corner
    (subst (λ l. slice_get l c.args.place ≡ Some c.in-Some-Some.taken) c.requires taken)
    ∙ ap (takes c.args.spans.now) same
