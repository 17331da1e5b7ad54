use Rattle.std.proofs.Common.{◌≡◌, take}
use Rattle.cf_policylang.specs.Migrating.{all_points}
use Rattle.cf_policylang.proofs.migrate.all_points.Given as goal

-- what was written
abbrev pub invariant-loop-asset : goal.invariant-loop-asset
invariant-loop-asset l = l.points.items ≡ all_points (take l.asset-index l.assets)
