use Rattle.std.proofs.Common.{◌≡◌, ◌+◌, is_ok, true, rules, subst, sym, arith}
use Rattle.std.specs.Prelude.{ℕ, List}
use Rattle.std.proofs.lemmas.Grind.{common_steps}
use Rattle.cf_policy.specs.declared.point_table.PointCell.{PointCell}
use Rattle.cf_policy.proofs.Steps.{HasReached, reached_more}
use Rattle.cf_policy.proofs.point_table.reaches_of.Goals as goal

pub loop-cell-preserved : goal.loop-cell-preserved
loop-cell-preserved c =
    let ok : is_ok c.push.result ≡ true = search rules in
    let pushed = rw ok at c.push.ensures.items in
    let d : PointCell = record { first = 0; last = 0; rule = 0 } in
    let next : ℕ = c.max-reach.result in
    subst (λ (l : List ℕ). HasReached c.args.cells.now (c.loop-cell.cell-index + 1) l next) (sym pushed)
    (reached_more c.args.cells.now c.loop-cell.cell-index d c.loop-cell.reaches.items c.loop-cell.reach next c.loop-cell-test.true c.loop-cell.invariant (grind (arith, common_steps)) (grind (arith, common_steps)))
