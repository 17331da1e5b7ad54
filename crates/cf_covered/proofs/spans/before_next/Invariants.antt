use Rattle.std.proofs.Common.{◌<ℤ◌, take}
use Rattle.std.specs.List.{All}
use Rattle.cf_covered.proofs.spans.before_next.Given as goal

abbrev pub invariant-loop-stated : goal.invariant-loop-stated
invariant-loop-stated l = All (λ s. l.span.low <ℤ s.low → l.high <ℤ s.low) (take l.stated-index l.spans)
