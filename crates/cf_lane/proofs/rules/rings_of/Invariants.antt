use Rattle.std.proofs.Common.{◌≡◌, [], take, map}
use Rattle.std.specs.Prelude.{All}
use Rattle.cf_lane.specs.Rates.{rated}
use Rattle.cf_lane.specs.Ring.{RingValue, ring_rate}
use Rattle.cf_lane.proofs.rules.rings_of.Given as goal

-- a ring for each rated rule so far
abbrev pub invariant-loop-number : goal.invariant-loop-number
invariant-loop-number l = record {
  rated : map ring_rate l.rings.items ≡ rated (take l.number l.rules);
  empty : All (λ (r : RingValue). r.moments ≡ []) l.rings.items;
}
