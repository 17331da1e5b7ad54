use Rattle.std.proofs.Common.{◌+◌, ◌∙◌, ap, sym}
use Rattle.toml.specs.View.{table_view}
use Rattle.cf_policylang.specs.declared.refusal.Key.TheVariants as key
use Rattle.cf_policylang.specs.declared.sets.PointSet.{PointSet}
use Rattle.cf_policylang.specs.Sets.{set, sets_from}
use Rattle.cf_policylang.specs.Tested.{at_document, at_set}
use Rattle.cf_policylang.proofs.Readings.{at_end, hands_on, no_table, refuses, runs_out, table_read, table_unread}
use Rattle.cf_policylang.proofs.sets.sets_from.Goals as goal

pub returns-in_err-table : goal.returns-in_err-table
returns-in_err-table c =
    refuses (λ s. s) _ c.from_residual.result c.in_err-table.field-0.0 c.from_residual.ensures.1
    (sym c.loop-index.invariant
    ∙ no_table key.Set at_document (λ n. set (at_set n)) c.deref-value-items.result.now c.args.array.now.items c.deref-value-items.ensures.value
    c.loop-index.index c.value-item.result c.loop-index-test.true c.value-item.is c.loop-index.sets.items c.in_err-table.field-0.0 c.in_err-table.ensures)

pub returns-in_err-set : goal.returns-in_err-set
returns-in_err-set c =
    let members = table_view c.in_ok-table.table.now in
    let own =
    ap (λ place. set place c.as_slice.result.now members) c.set-place.ensures
    ∙ ap (λ sets. set (at_set (c.loop-index.index + 1)) sets members) c.as_slice.ensures.value in
    hands_on (λ s. s) _ c.from_residual-in_err-set.result (λ (s : PointSet). s) _ c.in_err-set.field-0.0 c.from_residual-in_err-set.ensures.1
    c.in_err-set.ensures
    (λ r none. sym c.loop-index.invariant
    ∙ table_unread key.Set at_document (λ n. set (at_set n)) c.deref-value-items.result.now c.args.array.now.items c.deref-value-items.ensures.value
    c.loop-index.index c.value-item.result c.loop-index-test.true c.value-item.is c.loop-index.sets.items members c.in_ok-table.ensures r
    (sym own ∙ none))

pub returns-in_err-push : goal.returns-in_err-push
returns-in_err-push c = runs_out (λ s. s) _ c.from_residual-in_err-push.result c.from_residual-in_err-push.ensures.1

pub loop-index-preserved : goal.loop-index-preserved
loop-index-preserved c =
    let members = table_view c.in_ok-table.table.now in
    let own =
    ap (λ place. set place c.as_slice.result.now members) c.set-place.ensures
    ∙ ap (λ sets. set (at_set (c.loop-index.index + 1)) sets members) c.as_slice.ensures.value in
    let next =
    table_read key.Set at_document (λ n. set (at_set n)) c.deref-value-items.result.now c.args.array.now.items c.deref-value-items.ensures.value
    c.loop-index.index c.value-item.result c.loop-index-test.true c.value-item.is c.loop-index.sets.items members c.in_ok-table.ensures
    c.in_ok-set.set (sym own ∙ c.in_ok-set.ensures) in
    rw c.in_ok-push.ensures.items (sym next ∙ c.loop-index.invariant)

pub returns : goal.returns
returns c =
    let end = at_end (λ items. sets_from c.loop-index.index items c.loop-index.sets.items) c.deref-value-items.result.now
    c.args.array.now.items c.deref-value-items.ensures.value c.loop-index.index c.loop-index-test.false in
    rw c.new.ensures (sym c.loop-index.invariant ∙ end)
