use Rattle.std.proofs.Common.{◌≡◌, [], drop}
use Rattle.toml.specs.View.{items_view}
use Rattle.cf_policylang.specs.Assets.{assets_from}
use Rattle.cf_policylang.proofs.assets.assets_from.Given as goal

-- what is left, read after what was read, means what the whole does
abbrev pub invariant-loop-index : goal.invariant-loop-index
invariant-loop-index l =
    assets_from l.named l.index (items_view (drop l.index l.array.items)) l.assets.items
    ≡ assets_from l.named 0 (items_view l.array.items) []
