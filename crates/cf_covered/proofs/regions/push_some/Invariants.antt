use Rattle.std.proofs.Common.{◌≡◌, ◌++◌, take}
use Rattle.std.specs.List.{flat_map}
use Rattle.cf_covered.specs.Regions.{listed}
use Rattle.cf_covered.proofs.regions.push_some.Given as goal

abbrev pub invariant-loop-region : goal.invariant-loop-region
invariant-loop-region l = l.left.items ≡ l.initial.left.items ++ flat_map listed (take l.region-index l.regions)
