use Rattle.std.proofs.Common.{length}
use Rattle.cf_packet.proofs.Mss.{IsLeft}
use Rattle.cf_packet.proofs.options.mss_in.Given as goal

abbrev pub invariant-options : goal.invariant-options
invariant-options l = IsLeft l.rest l.options

abbrev pub decreases-options : goal.decreases-options
decreases-options l = length l.rest
