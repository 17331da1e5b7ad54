use Rattle.std.proofs.Common.{◌≡◌, [], drop}
use Rattle.toml.specs.View.{items_view}
use Rattle.cf_policylang.specs.Sets.{sets_from}
use Rattle.cf_policylang.proofs.sets.sets_from.Given as goal

-- what is left, read after what was read, means what the whole does
abbrev pub invariant-loop-index : goal.invariant-loop-index
invariant-loop-index l =
    sets_from l.index (items_view (drop l.index l.array.items)) l.sets.items
    ≡ sets_from 0 (items_view l.array.items) []
