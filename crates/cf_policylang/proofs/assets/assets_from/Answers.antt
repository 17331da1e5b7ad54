use Rattle.std.proofs.Common.{◌+◌, ◌∙◌, ap, sym}
use Rattle.toml.specs.View.{table_view}
use Rattle.cf_policy.specs.declared.policy.Asset.{Asset}
use Rattle.cf_policylang.specs.declared.refusal.Key.TheVariants as key
use Rattle.cf_policylang.specs.Assets.{asset, assets_from}
use Rattle.cf_policylang.specs.Tested.{at_document}
use Rattle.cf_policylang.proofs.Readings.{at_end, hands_on, no_table, refuses, runs_out, table_read, table_unread}
use Rattle.cf_policylang.proofs.assets.assets_from.Goals as goal

pub returns-in_err-table : goal.returns-in_err-table
returns-in_err-table c =
    refuses (λ a. a) _ c.from_residual.result c.in_err-table.field-0.0 c.from_residual.ensures.1
    (sym c.loop-index.invariant
    ∙ no_table key.Asset at_document (asset c.args.named.now) c.deref-value-items.result.now c.args.array.now.items c.deref-value-items.ensures.value
    c.loop-index.index c.value-item.result c.loop-index-test.true c.value-item.is c.loop-index.assets.items c.in_err-table.field-0.0 c.in_err-table.ensures)

pub returns-in_err-asset : goal.returns-in_err-asset
returns-in_err-asset c =
    let members = table_view c.in_ok-table.table.now in
    let seen = ap (λ assets. asset c.args.named.now (c.loop-index.index + 1) assets members) c.as_slice.ensures.value in
    hands_on (λ a. a) _ c.from_residual-in_err-asset.result (λ (a : Asset). a) _ c.in_err-asset.field-0.0 c.from_residual-in_err-asset.ensures.1
    c.in_err-asset.ensures
    (λ r none. sym c.loop-index.invariant
    ∙ table_unread key.Asset at_document (asset c.args.named.now) c.deref-value-items.result.now c.args.array.now.items
    c.deref-value-items.ensures.value c.loop-index.index c.value-item.result c.loop-index-test.true c.value-item.is c.loop-index.assets.items
    members c.in_ok-table.ensures r (sym seen ∙ none))

pub returns-in_err-push : goal.returns-in_err-push
returns-in_err-push c = runs_out (λ a. a) _ c.from_residual-in_err-push.result c.from_residual-in_err-push.ensures.1

pub loop-index-preserved : goal.loop-index-preserved
loop-index-preserved c =
    let members = table_view c.in_ok-table.table.now in
    let seen = ap (λ assets. asset c.args.named.now (c.loop-index.index + 1) assets members) c.as_slice.ensures.value in
    let next =
    table_read key.Asset at_document (asset c.args.named.now) c.deref-value-items.result.now c.args.array.now.items
    c.deref-value-items.ensures.value c.loop-index.index c.value-item.result c.loop-index-test.true c.value-item.is c.loop-index.assets.items
    members c.in_ok-table.ensures c.in_ok-asset.asset (sym seen ∙ c.in_ok-asset.ensures) in
    rw c.in_ok-push.ensures.items (sym next ∙ c.loop-index.invariant)

pub returns : goal.returns
returns c =
    let end = at_end (λ items. assets_from c.args.named.now c.loop-index.index items c.loop-index.assets.items) c.deref-value-items.result.now
    c.args.array.now.items c.deref-value-items.ensures.value c.loop-index.index c.loop-index-test.false in
    rw c.new.ensures (sym c.loop-index.invariant ∙ end)
