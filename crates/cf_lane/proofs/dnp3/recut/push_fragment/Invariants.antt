use Rattle.std.proofs.Common.{◌≡◌}
use Rattle.cf_outq.specs.SendQueue.{after_push}
use Rattle.cf_lane.proofs.Recutting.{first_frames}
use Rattle.cf_lane.proofs.dnp3.recut.push_fragment.Given as goal

abbrev pub invariant-loop-i : goal.invariant-loop-i
invariant-loop-i l = l.queue ≡ after_push l.fn.queue (first_frames l.asset l.to l.octets.bytes l.sequence l.i)
