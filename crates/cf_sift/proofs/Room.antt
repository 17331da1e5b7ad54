-- The room that drained queues have for what a piece puts there, and for what unfinished fragments may still put out.
use Rattle.std.proofs.Common.{ap, arith, length, ℕ, ◌*◌, ◌+◌, ◌≤◌}
use Rattle.cf_driver.proofs.Limits.{owed_most}
use Rattle.cf_lane.specs.Handled.{HasRoom, debt_limit}
use Rattle.cf_outq.specs.SendQueue.{Queue}
use Rattle.cf_policy.specs.Site.{IsSiteWithin, SiteValue}
use Rattle.cf_sift.specs.Sifting.{IsDrained}

pub drained_room : (site : SiteValue) (q : Queue) (owed size : ℕ) → IsSiteWithin site → IsDrained q → owed ≤ debt_limit site → size ≤ 4396 → HasRoom (owed + 2 * size) q
drained_room site q owed size within drained owes few = record {
  room = omega (arith, ap length drained.kept, owes, few, owed_most site within);
  limit = omega (arith, drained.few, owes, few, owed_most site within);
}
