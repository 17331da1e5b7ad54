use Rattle.std.proofs.Common.{◌∙◌, ◌*◌, arith, refl}
use Rattle.std.proofs.lemmas.List.{length-set}
use Rattle.cf_dnpobj.proofs.InOrder.{first_is_mark, marks_more, mark_after}
use Rattle.cf_dnpobj.proofs.marks.marks_of.Goals as goal

pub loop-number-init : goal.loop-number-init
loop-number-init c = record { marks = λ j l. absurd (omega arith); size = refl; next = first_is_mark c.args.fragment.now.code c.args.fragment.now.objects.bytes }

pub loop-number-preserved : goal.loop-number-preserved
loop-number-preserved c =
    let i = c.loop-number.invariant in
    let code = c.args.fragment.now.code in
    let xs = c.args.fragment.now.objects.bytes in
    let number = c.loop-number.number in
    record {
      marks = marks_more code xs number c.loop-number.marks c.loop-number.mark (omega (arith, i.size)) i.marks i.next;
      size = length-set c.loop-number.marks number c.loop-number.mark ∙ i.size;
      next = mark_after code xs number c.later_mark-mark.result (c.later_mark-mark.ensures (16 * number) i.next);
    }
