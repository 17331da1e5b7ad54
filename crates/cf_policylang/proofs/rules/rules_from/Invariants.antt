use Rattle.std.proofs.Common.{◌≡◌, [], drop}
use Rattle.toml.specs.View.{items_view}
use Rattle.cf_policylang.specs.Rules.{rules_from}
use Rattle.cf_policylang.proofs.rules.rules_from.Given as goal

-- what is left, read after what was read, means what the whole does
abbrev pub invariant-loop-index : goal.invariant-loop-index
invariant-loop-index l =
    rules_from l.named l.protocol l.asset l.index (items_view (drop l.index l.array.items)) l.earlier
    ≡ rules_from l.named l.protocol l.asset 0 (items_view l.array.items) []
