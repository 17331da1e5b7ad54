use Rattle.std.proofs.Common.{arith}
use Rattle.cf_draft.proofs.Allowing.{all_allowed, all_more}
use Rattle.cf_draft.proofs.shown.allows_all.Goals as goal

pub loop-place-preserved : goal.loop-place-preserved
loop-place-preserved c =
    all_more c.args.seen.now c.args.drafted.now c.loop-place.place _ c.loop-place-test.true c.loop-place.invariant (c.allows.ensures c.if-not-allows.false)

pub returns : goal.returns
returns c = λ yes. all_allowed c.args.seen.now c.args.drafted.now (λ k lt. c.loop-place.invariant k (omega (arith, lt, c.loop-place-test.false)))
