use Rattle.std.proofs.Common.{◌+◌, ◌-◌, ◌≤◌, ℕ, sym, subst, arith, length}
use Rattle.std.proofs.lemmas.List.{length-drop}
use Rattle.cf_dnpobj.specs.Acts.{header_count, IsMark}
use Rattle.cf_dnpobj.proofs.Sums.{header_at}
use Rattle.cf_dnpobj.proofs.InOrder.{mark_later, mark_passed}
use Rattle.cf_dnpobj.proofs.marks.later_mark.Goals as goal

pub loop-at-init : goal.loop-at-init
loop-at-init c = (omega (arith, c.requires.inside, c.len-len.ensures.length), omega arith, λ i is. mark_later c.args.code c.args.objects.now.bytes i c.args.mark 16 is)

pub loop-at-preserved : goal.loop-at-preserved
loop-at-preserved c =
    let xs = c.args.objects.now.bytes in
    let code = c.args.code in
    let place = c.loop-at.at in
    let h = c.in-Ok.header.bytes in
    let count = c.header_count-count.ensures.value in
    let inv = c.loop-at.invariant in
    let b = header_at code xs c.sub.result.bytes h place c.len-len.result c.len-len.ensures.length inv.0 c.sub.ensures.bytes c.in-Ok.ensures.found in
    let past : header_count code h ≤ c.loop-at.left = omega (arith, count, c.if-left-count.false) in
    let size = c.len-at.ensures.length in
    let left = length-drop place xs in (
      omega (arith, b.inside, size, left, inv.0, c.len-len.ensures.length),
      omega (arith, inv.1),
      λ i is.
          subst (λ (k : ℕ). IsMark code xs (i + 16) (record { at = place + k; left = c.loop-at.left - c.header_count-count.result })) (sym size)
          (subst (λ (k : ℕ). IsMark code xs (i + 16) (record { at = place + length h; left = c.loop-at.left - k })) (sym count) (mark_passed code xs h place b (i + 16) c.loop-at.left (inv.2 i is) past)),
    )
