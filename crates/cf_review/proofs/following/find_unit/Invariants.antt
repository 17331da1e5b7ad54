use Rattle.std.proofs.Common.{◌+◌, ◌-◌}
use Rattle.cf_review.specs.Follow.{IsSearched}
use Rattle.cf_review.proofs.following.find_unit.Given as goal

abbrev pub invariant-places : goal.invariant-places
invariant-places l = IsSearched l.fn.protocol l.fn.bytes l.fn.at → IsSearched l.protocol l.bytes l.at

abbrev pub decreases-places : goal.decreases-places
decreases-places l = l.last + 1 - l.at
