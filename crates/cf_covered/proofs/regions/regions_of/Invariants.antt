use Rattle.std.proofs.Common.{◌≡◌, take}
use Rattle.std.specs.List.{flat_map}
use Rattle.cf_covered.specs.Regions.{kind_regions}
use Rattle.cf_covered.proofs.regions.regions_of.Given as goal

abbrev pub invariant-loop-kind : goal.invariant-loop-kind
invariant-loop-kind l = l.regions.items ≡ flat_map kind_regions (take l.kind-index l.kinds)
