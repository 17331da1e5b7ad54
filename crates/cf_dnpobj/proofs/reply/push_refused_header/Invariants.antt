use Rattle.std.proofs.Common.{◌≡◌, ◌+◌, ◌++◌, map}
use Rattle.std.specs.List.{range_with_len}
use Rattle.arrayvec.specs.ArrayVec.{array_vec_len}
use Rattle.cf_dnpobj.specs.Reply.{refused_octet}
use Rattle.cf_dnpobj.proofs.reply.push_refused_header.Given as goal

abbrev pub invariant-loop-place : goal.invariant-loop-place
invariant-loop-place l =
    (l.out.items ≡ l.initial.out.items ++ map (refused_octet l.code l.header.bytes) (range_with_len 0 l.place))
    × (array_vec_len l.out ≡ array_vec_len l.initial.out + l.place)
