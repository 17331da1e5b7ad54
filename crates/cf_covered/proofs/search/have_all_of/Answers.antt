use Rattle.std.proofs.Common.{map, arith}
use Rattle.cf_covered.proofs.Commands.{codes_before}
use Rattle.cf_covered.proofs.search.have_all_of.Goals as goal

pub returns : goal.returns
returns c = λ _. codes_before c.args.protocol (map (λ r. r.now) c.args.others.now) c.args.rule.now c.code_end-code-end.result c.code_end-code-end.ensures
    (λ code low. c.loop-code.invariant code (let end = c.loop-code-test.false in omega (arith, low, end)))
