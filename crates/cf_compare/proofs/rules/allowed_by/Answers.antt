use Rattle.std.proofs.Common.{◌≡◌, ◌∙◌, rules, Some, None}
use Rattle.cf_policy.specs.Verdict.{is_allow}
use Rattle.cf_compare.proofs.Lists.{allowed_through}
use Rattle.cf_compare.proofs.rules.allowed_by.Goals as goal

pub returns-in-Some : goal.returns-in-Some
returns-in-Some c =
    let e : c.is_allow.result ≡ is_allow c.in-Some.rule.now.action = search rules in
    e ∙ allowed_through (λ r. r.now) c.args.value c.args.rules.now (Some c.in-Some.rule) (search rules)

pub returns-in-None : goal.returns-in-None
returns-in-None c = allowed_through (λ r. r.now) c.args.value c.args.rules.now None (search rules)
