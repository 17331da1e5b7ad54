use Rattle.std.proofs.Common.{◌≡◌, ◌+◌, is_ok, true, rules, subst, sym}
use Rattle.cf_policy.specs.PointTable.{IsCellOf}
use Rattle.cf_policy.specs.declared.index.CodePair.{CodePair}
use Rattle.cf_policy.proofs.Steps.{AreLike, like_more}
use Rattle.cf_policy.proofs.point_table.cells_of.Goals as goal

pub loop-pair-preserved : goal.loop-pair-preserved
loop-pair-preserved c =
    let ok : is_ok c.push.result ≡ true = search rules in
    let pushed = rw ok at c.push.ensures.items in
    let d : CodePair = record { code = 0; rule = 0 } in
    let is_cell = IsCellOf c.args.rules.now in
    subst (AreLike is_cell c.args.pairs.now (c.loop-pair.pair-index + 1)) (sym pushed)
    (like_more is_cell c.args.pairs.now c.loop-pair.pair-index d c.loop-pair.cells.items c.cell_of.result c.loop-pair-test.true c.loop-pair.invariant c.cell_of.ensures)
