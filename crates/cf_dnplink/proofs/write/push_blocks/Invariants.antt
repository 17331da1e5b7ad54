use Rattle.std.proofs.Common.{◌≡◌, ◌+◌, ◌*◌, ◌++◌, length, min}
use Rattle.arrayvec.specs.ArrayVec.{array_vec_len}
use Rattle.cf_dnplink.specs.LinkFrame.{blocks_by}
use Rattle.cf_dnplink.proofs.write.push_blocks.Given as goal

abbrev pub invariant-loop-k : goal.invariant-loop-k
invariant-loop-k l = (l.out.items ≡ l.initial.out.items ++ blocks_by l.k l.user.bytes) × (array_vec_len l.out ≡ 10 + min (16 * l.k) (length l.user.bytes) + 2 * l.k)
