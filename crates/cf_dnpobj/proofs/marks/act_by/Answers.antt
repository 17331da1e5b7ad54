use Rattle.std.proofs.Common.{◌/◌, ◌∙◌, arith, length}
use Rattle.cf_dnpobj.proofs.Sums.{above_zero}
use Rattle.cf_dnpobj.proofs.InOrder.{act_is, act_there, mark_leaves}
use Rattle.cf_dnpobj.proofs.marks.act_by.Goals as goal

pub overflow_add-mark : goal.overflow_add-mark
overflow_add-mark c = (let m = c.requires.marks (c.args.i / 16) (omega (arith, c.if-number-ge-MARKS.false)) in omega (arith, m.small, c.if-number-ge-MARKS.false))

pub find_from-requires : goal.find_from-requires
find_from-requires c = (let m = c.requires.marks (c.args.i / 16) (omega (arith, c.if-number-ge-MARKS.false)) in m.inside)

pub unwrap-requires : goal.unwrap-requires
unwrap-requires c =
    let f = c.args.fragment.now in
    let xs = f.objects.bytes in
    let m = c.requires.marks (c.args.i / 16) (omega (arith, c.if-number-ge-MARKS.false)) in
    act_there f.code xs c.args.i c.find_from.result (above_zero (length xs) c.if-is_empty.ensures.1) c.requires.inside
    (λ headers e. c.find_from.ensures c.args.i headers (mark_leaves f.code xs c.args.i _ m) e)

pub returns : goal.returns
returns c =
    let f = c.args.fragment.now in
    let xs = f.objects.bytes in
    let m = c.requires.marks (c.args.i / 16) (omega (arith, c.if-number-ge-MARKS.false)) in
    act_is f.code xs c.args.i c.find_from.result (above_zero (length xs) c.if-is_empty.ensures.1) c.requires.inside
    (λ headers e. c.find_from.ensures c.args.i headers (mark_leaves f.code xs c.args.i _ m) e)
    ∙ c.unwrap.ensures
