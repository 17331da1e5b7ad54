use Rattle.std.proofs.Common.{arith}
use Rattle.cf_lane.proofs.Moments.{left_out, replaced}
use Rattle.cf_lane.proofs.ring.replace_least.Goals as goal

pub returns-then-moments-place-clause-moments : goal.returns-then-moments-place-clause-moments
returns-then-moments-place-clause-moments c = λ all is bound.
    replaced c.args.moments.now all c.least-place.result c.args.moment c.least-place.ensures.inside c.least-place.ensures.least is bound (omega (arith, c.if-moments-place.true))

pub returns-else-moments-place-clause-moments : goal.returns-else-moments-place-clause-moments
returns-else-moments-place-clause-moments c = λ all is bound.
    left_out c.args.moments.now all c.least-place.result c.args.moment c.least-place.ensures.inside c.least-place.ensures.least is bound (omega (arith, c.if-moments-place.false))
