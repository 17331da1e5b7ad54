-- What unfinished fragments of a site's assets may still put out, and the room that is left beside it.
use Rattle.std.proofs.Common.{List, arith, length, min, refl, subst, sym, take, ℕ, ◌*◌, ◌++◌, ◌+◌, ◌-◌, ◌<◌, ◌^◌, ◌≡◌, ◌≤◌}
use Rattle.std.proofs.lemmas.List.{length-append, length-take-le}
use Rattle.cf_driver.proofs.Limits.{owed_most}
use Rattle.cf_lane.specs.Handled.{HasRoom, debt_by, debt_limit}
use Rattle.cf_outq.specs.SendQueue.{Queue, queue_length}
use Rattle.cf_policy.specs.Site.{IsSiteWithin, SiteValue, assets_of}
use Rattle.cf_policy.specs.Within.{most_at_site}
use Rattle.cf_policy.specs.declared.Protocol.{Protocol}
use Rattle.cf_view.specs.declared.Side.{Side}
use Rattle.cf_policy.specs.declared.Protocol.TheVariants as protocol
use Rattle.cf_view.specs.declared.Side.TheVariants as side
use Rattle.cf_relay.specs.Reading.{most_back}
use Rattle.cf_relay.specs.Taken.{MayTakeNow}
use Rattle.cf_relay.specs.declared.directions.Directions.{Directions}
use Rattle.cf_relay.specs.declared.limit.TheConstants.{MOST_BYTES}
use Rattle.cf_relay.specs.declared.directions.Directions.TheVariants as both

few_of : (p : Protocol) (count : ℕ) → p ≡ protocol.Dnp3 → count ≤ most_at_site p → count ≤ 8
few_of protocol.Modbus count is few = cc
few_of protocol.Dnp3 count is few = omega (arith, few)
few_of protocol.Iec104 count is few = cc

-- of DNP3 a site has eight assets at most
pub few_assets : (site : SiteValue) → IsSiteWithin site → site.first.protocol ≡ protocol.Dnp3 → length (assets_of site) ≤ 8
few_assets site within is = few_of site.first.protocol (length (assets_of site)) is within.count

owes_by : (p : Protocol) (count : ℕ) → p ≡ protocol.Dnp3 → debt_by p count ≡ 5300 * count
owes_by protocol.Modbus count is = cc
owes_by protocol.Dnp3 count is = refl
owes_by protocol.Iec104 count is = cc

-- and each of them owes 5,300 at most
pub owes_each : (site : SiteValue) → site.first.protocol ≡ protocol.Dnp3 → debt_limit site ≡ 5300 * length (assets_of site)
owes_each site is = owes_by site.first.protocol (length (assets_of site)) is

-- no other protocol owes anything
pub owes_none : (site : SiteValue) (p : Protocol) → site.first.protocol ≡ p → debt_by p (length (assets_of site)) ≡ 0 → debt_limit site ≡ 0
owes_none site p is none = subst (λ (q : Protocol). debt_by q (length (assets_of site)) ≡ 0) (sym is) none

-- the number of letters that may wait in the queue back to a side, as it is found
pub back_is : (site : SiteValue) (owed : ℕ) → owed ≡ debt_limit site → min 98304 (113488 - owed) ≡ most_back both.Separate site
back_is site owed is = omega (arith, is)

-- the queues have room for what a piece of a side and what was left of it put there
back_room : (dirs : Directions) (site : SiteValue) (kept owed size : ℕ) → IsSiteWithin site → kept ≤ most_back dirs site → owed ≤ debt_limit site → size ≤ 4396 →
    kept + (owed + 2 * size) ≤ 131072
back_room both.Together site kept owed size within small owes few = omega (arith, small, owes, few, owed_most site within)
back_room both.Separate site kept owed size within small owes few = omega (arith, small, owes, few, owed_most site within)

onward_room : (site : SiteValue) (kept owed size : ℕ) → IsSiteWithin site → kept ≤ 16384 → owed ≤ debt_limit site → size ≤ 4396 → kept + (owed + 2 * size) ≤ 131072
onward_room site kept owed size within small owes few = omega (arith, small, owes, few, owed_most site within)

pub has_room : (dirs : Directions) (site : SiteValue) (s : Side) (c k : Queue) (owed size : ℕ) → IsSiteWithin site → MayTakeNow dirs site s c k → owed ≤ debt_limit site → size ≤ 4396 →
    queue_length c < 2 ^ 30 → queue_length k < 2 ^ 30 → HasRoom (owed + 2 * size) c × HasRoom (owed + 2 * size) k
has_room dirs site side.Client c k owed size within may owes few shorter short = (
  record {
    room = back_room dirs site (length c.kept) owed size within (omega (arith, may.back)) owes few;
    limit = omega (arith, shorter, owes, few, owed_most site within);
  },
  record {
    room = onward_room site (length k.kept) owed size within (omega (arith, may.onward)) owes few;
    limit = omega (arith, short, owes, few, owed_most site within);
  },
)
has_room dirs site side.Controller c k owed size within may owes few shorter short = (
  record {
    room = onward_room site (length c.kept) owed size within (omega (arith, may.onward)) owes few;
    limit = omega (arith, shorter, owes, few, owed_most site within);
  },
  record {
    room = back_room dirs site (length k.kept) owed size within (omega (arith, may.back)) owes few;
    limit = omega (arith, short, owes, few, owed_most site within);
  },
)

-- so it is of what a call left at the front of the buffer
pub fed_room : (dirs : Directions) (site : SiteValue) (s : Side) (c k : Queue) (owed n : ℕ) (rest buf : List ℕ) → IsSiteWithin site → MayTakeNow dirs site s c k → owed ≤ debt_limit site →
    length rest < 300 → n ≤ length buf → length buf ≡ MOST_BYTES → queue_length c < 2 ^ 30 → queue_length k < 2 ^ 30 →
    HasRoom (owed + 2 * length (rest ++ take n buf)) c × HasRoom (owed + 2 * length (rest ++ take n buf)) k
fed_room dirs site s c k owed n rest buf within may owes little inside size shorter short =
    has_room dirs site s c k owed (length (rest ++ take n buf)) within may owes (omega (arith, length-append rest (take n buf), length-take-le n buf inside, little, inside, size)) shorter short
