use Rattle.std.proofs.Common.{◌≡◌, pos, true, arith, rules}
use Rattle.cf_policy.specs.Verdict.{takes}
use Rattle.cf_covered.proofs.regions.had_part.Goals as goal

pub returns-clause-had : goal.returns-clause-had
returns-clause-had c = λ client act same inside.
    let code : takes c.args.rule.now.codes (pos c.args.code) ≡ true = search rules in
    let clients = c.in_ok-taken_part.ensures.taken (pos client) in
    let groups = c.in_ok-taken_part-2.ensures.taken (pos act.group) in
    let points = c.in_ok-taken_part-3.ensures.taken (pos act.point) in
    let values = c.in_ok-taken_values.ensures.taken act.value in
    grind arith
