use Rattle.std.proofs.Common.{pos}
use Rattle.cf_policy.specs.declared.policy.Span.{Span}
use Rattle.cf_policy.proofs.Runs.{cover_steady}
use Rattle.cf_policy.proofs.run.spans_until.Goals as goal

pub returns-in-Some-clause-steady : goal.returns-in-Some-clause-steady
returns-in-Some-clause-steady c =
    let d : Span = record { low = pos 0; high = pos 0 } in
    cover_steady c.args.spans.now c.in-Some.place d c.args.first c.span_until.result c.in-Some.ensures.inside (c.in-Some.ensures.covers d) c.span_until.ensures.steady
