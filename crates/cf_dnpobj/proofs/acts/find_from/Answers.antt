use Rattle.std.proofs.Common.{◌+◌, ◌-◌, ◌<◌, ◌≤◌, ℕ, sym, ap, ◌∙◌, subst, arith, length, drop}
use Rattle.std.proofs.lemmas.List.{length-drop}
use Rattle.cf_dnpobj.specs.Acts.{header_count, LeavesActs}
use Rattle.cf_dnpobj.specs.Headers.{header_size}
use Rattle.cf_dnpobj.proofs.Sums.{header_at, rest_is}
use Rattle.cf_dnpobj.proofs.InOrder.{found, passed, no_header, none_left}
use Rattle.cf_dnpobj.proofs.acts.find_from.Goals as goal

pub loop-at-preserved : goal.loop-at-preserved
loop-at-preserved c =
    let xs = c.args.objects.now.bytes in
    let code = c.args.code in
    let place = c.loop-at.at in
    let h = c.in-Ok.header.bytes in
    let count = c.header_count-count.ensures.value in
    let inv = c.loop-at.invariant in
    let b = header_at code xs c.sub.result.bytes h place c.len-len.result c.len-len.ensures.length inv.0 c.sub.ensures.bytes c.in-Ok.ensures.found in
    let past : header_count code h ≤ c.loop-at.left = omega (arith, count, c.if-left-count.false) in
    let size = c.len-at.ensures.length in
    let left = length-drop place xs in (
      omega (arith, b.inside, size, left, inv.0, c.len-len.ensures.length),
      λ i first.
          subst (λ (k : ℕ). LeavesActs code xs i (place + k) (c.loop-at.left - c.header_count-count.result)) (sym size)
          (subst (λ (k : ℕ). LeavesActs code xs i (place + length h) (c.loop-at.left - k)) (sym count) (passed code xs h place b i c.loop-at.left (inv.1 i first) past)),
    )

pub returns-then-left-count : goal.returns-then-left-count
returns-then-left-count c =
    let xs = c.args.objects.now.bytes in
    let code = c.args.code in
    let place = c.loop-at.at in
    let h = c.in-Ok.header.bytes in
    let inv = c.loop-at.invariant in
    let b = header_at code xs c.sub.result.bytes h place c.len-len.result c.len-len.ensures.length inv.0 c.sub.ensures.bytes c.in-Ok.ensures.found in
    let inside : c.loop-at.left < header_count code h = omega (arith, c.header_count-count.ensures.value, c.if-left-count.true) in
    λ i headers first e. found code xs h place b i c.loop-at.left c.header_act.result (inv.1 i first) inside c.header_act.ensures headers e

pub returns-in_default : goal.returns-in_default
returns-in_default c = λ i headers first e.
    (let xs = c.args.objects.now.bytes in
    let inv = c.loop-at.invariant in
    let l = inv.1 i first headers e in
    let rest = rest_is xs c.sub.result.bytes c.loop-at.at c.len-len.result c.len-len.ensures.length inv.0 c.sub.ensures.bytes in
    let some : 0 < length (drop c.loop-at.at xs) = omega (arith, length-drop c.loop-at.at xs, c.loop-at-test.true, c.len-len.ensures.length) in
    absurd (no_header c.args.code (drop c.loop-at.at xs) c.in_default.field-0 l.0 some (ap (header_size c.args.code) (sym rest) ∙ c.in_default.ensures.fault) l.1))

pub returns : goal.returns
returns c = λ i headers first e.
    (let l = c.loop-at.invariant.1 i first headers e in
    none_left c.args.code c.args.objects.now.bytes c.loop-at.at c.loop-at.left l.0 (omega (arith, c.loop-at-test.false, c.len-len.ensures.length)) l.1 ∙ sym l.2)
