use Rattle.std.proofs.Common.{◌-◌, ◌*◌, ◌≤◌, length, drop}
use Rattle.cf_packet.specs.Checksum.{total, words}
use Rattle.cf_packet.proofs.Sums.{IsSoFar}
use Rattle.cf_packet.proofs.checksum.gathered.Given as goal

abbrev pub invariant-loop-at : goal.invariant-loop-at
invariant-loop-at l = record {
  inside : l.at ≤ length l.octets;
  small : l.sum ≤ l.at * 1073741824;
  so_far : IsSoFar l.sum (total (words (drop l.at l.octets))) (total (words l.octets));
}

abbrev pub decreases-loop-at : goal.decreases-loop-at
decreases-loop-at l = length l.octets - l.at
