use Rattle.std.proofs.Common.{subst, pos, arith}
use Rattle.std.proofs.lemmas.List.{take_all}
use Rattle.cf_policy.specs.declared.policy.Span.{Span}
use Rattle.cf_policy.proofs.Runs.{SpansSteady, spans_more, takes_steady}
use Rattle.cf_policy.proofs.run.walked_until.Goals as goal

pub loop-span-preserved : goal.loop-span-preserved
loop-span-preserved c =
    let d : Span = record { low = pos 0; high = pos 0 } in (
      spans_more c.args.spans.now c.loop-span.span-index d c.args.first c.loop-span.reached c.span_until-reached.result c.loop-span-test.true c.span_until-reached.ensures.stays c.loop-span.invariant.0 c.span_until-reached.ensures.steady,
      c.span_until-reached.ensures.reaches,
      omega (arith, c.span_until-reached.ensures.stays, c.loop-span.invariant.2),
    )

pub returns-clause-steady : goal.returns-clause-steady
returns-clause-steady c =
    takes_steady c.args.spans.now c.args.first c.loop-span.reached
    (subst (SpansSteady c.args.first c.loop-span.reached) (take_all c.loop-span.span-index c.args.spans.now c.loop-span-test.false) c.loop-span.invariant.0)
