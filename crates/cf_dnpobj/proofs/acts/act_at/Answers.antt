use Rattle.std.proofs.Common.{◌∙◌, length}
use Rattle.cf_dnpobj.proofs.Sums.{above_zero}
use Rattle.cf_dnpobj.proofs.InOrder.{act_is, act_there}
use Rattle.cf_dnpobj.proofs.acts.act_at.Goals as goal

pub unwrap-requires : goal.unwrap-requires
unwrap-requires c =
    let f = c.args.fragment.now in
    let xs = f.objects.bytes in
    act_there f.code xs c.args.i c.find_act.result (above_zero (length xs) c.if-is_empty.ensures.1) c.requires.inside c.find_act.ensures

pub returns : goal.returns
returns c =
    let f = c.args.fragment.now in
    let xs = f.objects.bytes in
    act_is f.code xs c.args.i c.find_act.result (above_zero (length xs) c.if-is_empty.ensures.1) c.requires.inside c.find_act.ensures
    ∙ c.unwrap.ensures
