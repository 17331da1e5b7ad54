use Rattle.std.proofs.Common.{◌≡◌, ◌<ℤ◌, ℤ, true, false, rules}
use Rattle.std.specs.List.{All}
use Rattle.cf_policy.specs.Verdict.{covers, takes}
use Rattle.cf_covered.proofs.SpanLists.{lacked_to}
use Rattle.cf_covered.proofs.spans.lacked_part.Goals as goal

pub returns-clause-lacked : goal.returns-clause-lacked
returns-clause-lacked c =
    let lack : takes c.args.spans.now c.args.span.low ≡ false = search rules in
    let next : All (λ s. c.args.span.low <ℤ s.low → c.before_next.result <ℤ s.low) c.args.spans.now = search rules in
    let plain : (n : ℤ) → covers (record { low = c.args.span.low; high = c.before_next.result }) n ≡ true → takes c.args.spans.now n ≡ false =
    λ n h. lacked_to c.args.spans.now c.args.span.low c.before_next.result n lack next h in
    search (rules, plain)
