use Rattle.std.proofs.Common.{◌≡◌, ◌-◌, ◌<◌, ◌≤◌, Some, ltb, ltb-true, ltb-false, sym, subst, ap, ◌∙◌, arith}
use Rattle.std.specs.Prelude.{slice_get, if◌then◌else◌}
use Rattle.std.proofs.lemmas.Bool.{cases_Bool}
use Rattle.std.proofs.lemmas.Option.{slice_get-get_or}
use mathlib.Core.Logic.{⊎_elim}
use Rattle.cf_policy.specs.declared.point_table.Taker.TheVariants.{Nobody, Only}
use Rattle.cf_policy.specs.PointTable.{HasTaker, line_place}
use Rattle.cf_policy.proofs.PointTable.{nobody_first, nobody_after, only_after}
use Rattle.cf_policy.proofs.point_table.taker_after.Goals as goal

pub returns-then-count-eq0 : goal.returns-then-count-eq0
returns-then-count-eq0 c = λ rules pairs code first last table at fits ordered stretch.
    nobody_first rules pairs c.args.cells.now c.args.reaches.now code first last c.args.count table fits ordered stretch c.if-count-eq0.true

pub returns-in-Some-Some : goal.returns-in-Some-Some
returns-in-Some-Some c = λ rules pairs code first last table at fits ordered stretch.
    let cells = c.args.cells.now in
    let reaches = c.args.reaches.now in
    let count = c.args.count in
    let cell = c.in-Some-Some.cell.now in
    let reach = c.in-Some-Some.reach.now in
    let some : 1 ≤ count = omega (arith, c.if-count-eq0.false) in
    let cell_at : slice_get cells (count - 1) ≡ Some cell = slice_get-get_or cells (count - 1) cell (ltb-true _ _ (sym c.in-Some-Some.ensures.lookup.0)) ∙ ap Some (sym c.in-Some-Some.ensures.lookup.1) in
    let reach_at : slice_get reaches (count - 1) ≡ Some reach = slice_get-get_or reaches (count - 1) reach (ltb-true _ _ (sym c.in-Some-Some.ensures'.lookup.0)) ∙ ap Some (sym c.in-Some-Some.ensures'.lookup.1) in
    let short : reach < line_place code first = omega (arith, c.if-reach-place.true, at) in
    let is : c.taker_of.result ≡ (if ltb cell.last c.args.place then Nobody else Only cell.rule) = c.taker_of.ensures in
    ⊎_elim
    (λ past.
    subst (HasTaker rules pairs code first last) (sym (is ∙ ap (λ b. if b then Nobody else Only cell.rule) past))
    (nobody_after rules pairs cells reaches code first last count table fits ordered stretch cell reach cell_at reach_at short
    (let lt = ltb-true cell.last c.args.place past in omega (arith, lt, at))))
    (λ here.
    subst (HasTaker rules pairs code first last) (sym (is ∙ ap (λ b. if b then Nobody else Only cell.rule) here))
    (only_after rules pairs cells reaches code first last count table fits ordered stretch cell reach cell_at reach_at short some
    (let le = ltb-false cell.last c.args.place here in omega (arith, le, at))))
    (cases_Bool (ltb cell.last c.args.place))
