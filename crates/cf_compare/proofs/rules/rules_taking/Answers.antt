use Rattle.std.proofs.Common.{◌≡◌, ◌∙◌, ap, map, rules}
use Rattle.std.proofs.lemmas.Result.{IfOk-weaker}
use Rattle.std.specs.Prelude.{filter, IfOk}
use Rattle.cf_compare.specs.Search.{takes_on, rules_taking}
use Rattle.cf_compare.proofs.Lists.{map-filter}
use Rattle.cf_compare.proofs.rules.rules_taking.Goals as goal

pub returns : goal.returns
returns c =
    let kept : IfOk c.rows_taking.result (λ v. v.items ≡ filter (λ r. takes_on c.args.axis c.args.number r.now) c.args.rules.now) = search rules in
    IfOk-weaker c.rows_taking.result (λ v. v.items ≡ filter (λ r. takes_on c.args.axis c.args.number r.now) c.args.rules.now) (λ v. map (λ r. r.now) v.items ≡ rules_taking c.args.axis c.args.number (map (λ r. r.now) c.args.rules.now))
    (λ v e. ap (λ l. map (λ r. r.now) l) e ∙ map-filter (λ r. r.now) (takes_on c.args.axis c.args.number) c.args.rules.now) kept
