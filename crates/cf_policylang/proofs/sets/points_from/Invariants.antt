use Rattle.std.proofs.Common.{◌≡◌, [], drop}
use Rattle.toml.specs.View.{items_view}
use Rattle.cf_policylang.specs.Sets.{points_from}
use Rattle.cf_policylang.proofs.sets.points_from.Given as goal

-- what is left, read after what was read, means what the whole does
abbrev pub invariant-loop-value : goal.invariant-loop-value
invariant-loop-value l =
    points_from l.named l.place (items_view (drop l.value-index l.array.items)) l.spans.items
    ≡ points_from l.named l.place (items_view l.array.items) []
