use Rattle.std.proofs.Common.{◌≡◌, ◌∙◌, sym, subst, ap}
use Rattle.cf_policy.specs.declared.policy.Rule.{Rule}
use Rattle.std.specs.Prelude.{List, position}
use Rattle.cf_policy.specs.Index.{ArePairsOf, verdict_by, rule_at, has_group_to_value, tried}
use Rattle.cf_policy.specs.Run.{HasOneVerdict}
use Rattle.cf_policy.proofs.Runs.{AreSteady, one_verdict}
use Rattle.cf_policy.proofs.index.CodeIndex.verdict_run.Goals as goal

pub returns-clause-run : goal.returns-clause-run
returns-clause-run c = λ client index.
    let own : ArePairsOf c.args.asset.now client c.pairs.result.now = subst (ArePairsOf c.args.asset.now client) (sym c.pairs.ensures) index.pairs in
    let part = c.pairs_of-pairs.ensures own.ascending in
    let last = c.pairs_until.result in
    let part_pairs = c.pairs_of-pairs.result.now in
    let place = c.first_place-place.result in
    let first : place ≡ position (λ p. rule_at c.args.asset.now.rules p.rule (λ r. has_group_to_value r c.args.act.now)) part_pairs =
    c.first_place-place.ensures ∙ ap (λ (rules : List Rule). position (λ p. rule_at rules p.rule (λ r. has_group_to_value r c.args.act.now)) part_pairs) c.as_slice-rules.ensures in
    let untried : AreSteady c.as_slice-rules.result.now c.args.act.now.point last (tried place part_pairs) =
    subst (AreSteady c.as_slice-rules.result.now c.args.act.now.point last) c.tried.ensures c.pairs_until.ensures.steady in
    let steady : AreSteady c.args.asset.now.rules c.args.act.now.point last (tried place part_pairs) =
    subst (λ (rules : List Rule). AreSteady rules c.args.act.now.point last (tried place part_pairs)) c.as_slice-rules.ensures untried in
    subst (HasOneVerdict c.args.asset.now client c.args.act.now last)
    (sym (c.verdict_at-verdict.ensures.decides ∙ ap (λ rules. verdict_by part_pairs rules c.args.act.now) c.as_slice-rules.ensures))
    (one_verdict c.args.asset.now client c.args.act.now c.pairs.result.now part_pairs last place own part first steady)
