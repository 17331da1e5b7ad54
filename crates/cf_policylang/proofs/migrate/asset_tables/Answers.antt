use Rattle.std.proofs.Common.{◌≡◌, ◌++◌, ◌∷◌, [], ap, ◌∙◌}
use Rattle.toml.specs.Data.{table}
use Rattle.toml.specs.declared.value.Value.TheVariants.{Table}
use Rattle.toml.proofs.Views.{view-Table}
use Rattle.cf_policylang.specs.Spelling.{asset_table}
use Rattle.cf_policylang.proofs.Written.{values_step}
use Rattle.cf_policylang.proofs.migrate.asset_tables.Goals as goal

pub loop-asset-preserved : goal.loop-asset-preserved
loop-asset-preserved c =
    let own = c.fill_asset.new.table in
    let items : c.push.new.self.items ≡ c.loop-asset.tables.items ++ Table own ∷ [] = c.in_ok-push.ensures.items in
    rw items
    (values_step (λ a. table (asset_table c.args.lists.now a)) c.loop-asset.tables.items (Table own) c.args.assets.now c.loop-asset.asset-index
    c.asset-item.result c.loop-asset-test.true
    (view-Table own ∙ (ap table c.in_ok-fill_asset.ensures ∙ ap (λ a. table (asset_table c.args.lists.now a)) c.asset-item.is))
    c.loop-asset.invariant)
