use Rattle.std.proofs.Common.{◌+◌, ◌*◌, ◌-◌, ◌≤◌, min}
use Rattle.cf_view.specs.Places.{EachFollows}
use Rattle.cf_dnplink.specs.FramePlaces.{follows}
use Rattle.cf_dnplink.proofs.frame.first_wrong.Given as goal

abbrev pub invariant-blocks-2 : goal.invariant-blocks-2
invariant-blocks-2 l = EachFollows follows l.bytes.bytes (min l.end (10 + l.block * 18)) × (l.block ≤ 17)

abbrev pub decreases-blocks-2 : goal.decreases-blocks-2
decreases-blocks-2 l = l.end - l.block * 18
