use Rattle.std.proofs.Common.{◌≡◌, take}
use Rattle.toml.specs.View.{items_view}
use Rattle.cf_policylang.specs.Spelling.{asset_tables}
use Rattle.cf_policylang.proofs.migrate.asset_tables.Given as goal

-- what was written
abbrev pub invariant-loop-asset : goal.invariant-loop-asset
invariant-loop-asset l = items_view l.tables.items ≡ asset_tables l.lists (take l.asset-index l.assets)
