use Rattle.std.proofs.Common.{◌≡◌, ◌∙◌, sym, ap, rules}
use Rattle.cf_compare.specs.Cells.{axis_spans}
use Rattle.cf_compare.specs.Tables.{table_of, table_at, corners_at}
use Rattle.cf_compare.proofs.Lookup.{table_for}
use Rattle.cf_compare.proofs.rows.Row.takes.Goals as goal

pub takes_corner-requires : goal.takes_corner-requires
takes_corner-requires c =
    let spans : c.axis_spans.result.now ≡ axis_spans c.args.axis c.self.inside.rule.now = search rules in
    let corners : c.corners_at.result.now ≡ corners_at c.args.axis c.self.inside.corners.now = search rules in
    let table : c.table_at.result.now ≡ table_at c.args.axis c.self.inside.tables = search rules in
    table ∙ (table_for c.args.axis c.self.inside.rule.now c.self.inside.corners.now c.self.inside.tables c.self.invariant
    ∙ (sym (ap (λ l. table_of l (corners_at c.args.axis c.self.inside.corners.now)) spans)
    ∙ sym (ap (λ l. table_of c.axis_spans.result.now l) corners)))
