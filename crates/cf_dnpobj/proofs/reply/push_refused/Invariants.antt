use Rattle.std.proofs.Common.{◌≡◌, ◌+◌, ◌-◌, ◌≤◌}
use Rattle.arrayvec.specs.ArrayVec.{array_vec_len}
use Rattle.cf_dnpobj.proofs.InOrder.{LeavesReply}
use Rattle.cf_dnpobj.proofs.reply.push_refused.Given as goal

abbrev pub invariant-loop-at : goal.invariant-loop-at
invariant-loop-at l =
    (l.at ≤ l.len) × (array_vec_len l.out ≡ array_vec_len l.initial.out + l.at)
    × LeavesReply l.code l.objects.bytes l.initial.out.items l.at l.out.items

abbrev pub decreases-loop-at : goal.decreases-loop-at
decreases-loop-at l = l.len - l.at
