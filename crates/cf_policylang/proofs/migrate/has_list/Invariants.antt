use Rattle.std.proofs.Common.{◌≡◌, drop}
use Rattle.cf_policylang.specs.Migrating.{has_list}
use Rattle.cf_policylang.proofs.migrate.has_list.Given as goal

-- what is left has one exactly where the whole has one
abbrev pub invariant-loop-list : goal.invariant-loop-list
invariant-loop-list l = has_list (drop l.list-index l.lists) l.points ≡ has_list l.lists l.points
