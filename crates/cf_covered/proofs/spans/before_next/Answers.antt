use Rattle.std.proofs.Common.{◌<ℤ◌, ◌+◌, take, rules}
use Rattle.std.specs.List.{All}
use Rattle.cf_covered.proofs.SpanLists.{all_before, one_more_before}
use Rattle.cf_covered.proofs.spans.before_next.Goals as goal

pub loop-stated-preserved : goal.loop-stated-preserved
loop-stated-preserved c =
    let next : All (λ s. c.args.span.low <ℤ s.low → c.before-high.result <ℤ s.low) (take (c.loop-stated.stated-index + 1) c.args.spans.now) =
    one_more_before c.args.spans.now c.loop-stated.stated-index _ c.args.span.low _ c.before-high.result c.loop-stated-test.true
    c.loop-stated.invariant c.before-high.ensures.not_above c.before-high.ensures.before in
    search (rules, next)

pub returns : goal.returns
returns c = all_before c.args.spans.now c.loop-stated.stated-index c.args.span.low _ c.loop-stated-test.false c.loop-stated.invariant
