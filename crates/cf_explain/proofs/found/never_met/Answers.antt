use Rattle.std.proofs.Common.{arith}
use Rattle.cf_explain.proofs.Codes.{never_meets}
use Rattle.cf_explain.proofs.found.never_met.Goals as goal

pub returns : goal.returns
returns c = λ _. never_meets c.args.protocol c.args.rule.now (λ code low taken. c.loop-code.invariant code (omega (arith, low, c.loop-code-test.false)) taken)
