use Rattle.std.proofs.Common.{◌≡◌, ◌≤◌, [], drop, length}
use Rattle.cf_policylang.specs.declared.sets.TheConstants.{MOST_SETS}
use Rattle.cf_policylang.specs.Migrating.{sets_behind}
use Rattle.cf_policylang.proofs.migrate.shared_lists.Given as goal

-- what is left, after the sets that were found, gives the sets of the whole
abbrev pub invariant-loop-index : goal.invariant-loop-index
invariant-loop-index l =
    (sets_behind l.seen.items (drop l.index l.points) ≡ sets_behind [] l.points) × (length l.seen.items ≤ MOST_SETS)
