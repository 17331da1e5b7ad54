use Rattle.std.proofs.Common.{length}
use Rattle.cf_dnpobj.proofs.Sums.{acts_summed, above_zero}
use Rattle.cf_dnpobj.proofs.acts.act_count.Goals as goal

pub returns-in-Ok : goal.returns-in-Ok
returns-in-Ok c =
    let xs = c.args.fragment.now.objects.bytes in
    acts_summed c.args.fragment.now.code xs c.in-Ok.count (above_zero (length xs) c.if-is_empty.ensures.1) c.in-Ok.ensures.value
