use Rattle.std.proofs.Common.{◌≡◌, true, rules}
use Rattle.cf_policy.specs.Verdict.{covers}
use Rattle.cf_covered.proofs.OutlineLooks.{both_ends}
use Rattle.cf_covered.proofs.outline.joined.Goals as goal

pub returns-clause-has : goal.returns-clause-has
returns-clause-has c =
    let low : covers c.widened.result c.args.span.now.low ≡ true = search rules in
    let high : covers c.widened-2.result c.args.span.now.high ≡ true = search rules in
    both_ends c.widened.result c.widened-2.result c.args.span.now low c.widened-2.ensures.begins c.widened-2.ensures.ends high
