use Rattle.std.proofs.Common.{◌≡◌, [], drop}
use Rattle.toml.specs.View.{items_view}
use Rattle.cf_policylang.specs.Lists.{entries_from}
use Rattle.cf_policylang.proofs.lists.entries_from.Given as goal

-- what is left, read after what was read, means what the whole does
abbrev pub invariant-loop-value : goal.invariant-loop-value
invariant-loop-value l =
    entries_from l.entries l.key l.place (items_view (drop l.value-index l.array.items)) l.spans.items
    ≡ entries_from l.entries l.key l.place (items_view l.array.items) []
