use Rattle.std.proofs.Common.{length, ◌-◌, ◌≤◌}
use Rattle.cf_lane.specs.Kept.{AreNewFragments}
use Rattle.cf_lane.proofs.wire.fragments_of.Given as goal

-- the fragments so far, of which nothing has come
abbrev pub invariant-assets : goal.invariant-assets
invariant-assets l = record {
  few : length l.all.items ≤ l.count;
  are : AreNewFragments (length l.all.items) l.all.items;
}

abbrev pub decreases-assets : goal.decreases-assets
decreases-assets l = l.count - length l.all.items
