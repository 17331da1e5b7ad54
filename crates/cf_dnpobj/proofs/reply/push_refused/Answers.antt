use Rattle.std.proofs.Common.{◌+◌, ℕ, sym, subst, arith}
use Rattle.std.proofs.lemmas.List.{length-drop}
use Rattle.cf_dnpobj.proofs.Sums.{header_at}
use Rattle.cf_dnpobj.proofs.InOrder.{LeavesReply, replied}
use Rattle.cf_dnpobj.proofs.reply.push_refused.Goals as goal

pub loop-at-preserved : goal.loop-at-preserved
loop-at-preserved c =
    let xs = c.args.objects.now.bytes in
    let code = c.args.code in
    let place = c.loop-at.at in
    let h = c.in-Ok.header.bytes in
    let inv = c.loop-at.invariant in
    let b = header_at code xs c.sub.result.bytes h place c.len-len.result c.len-len.ensures.length inv.0 c.sub.ensures.bytes c.in-Ok.ensures.found in
    let size = c.len-at.ensures.length in
    let left = length-drop place xs in
    let items = c.push_refused_header.new.out.items in (
      omega (arith, b.inside, size, left, inv.0, c.len-len.ensures.length),
      omega (arith, c.push_refused_header.ensures.len, inv.1, size),
      subst (λ (k : ℕ). LeavesReply code xs c.args.out.now.items (place + k) items) (sym size)
          (replied code xs h place b c.args.out.now.items c.loop-at.out.items items inv.2 c.push_refused_header.ensures.items),
    )
