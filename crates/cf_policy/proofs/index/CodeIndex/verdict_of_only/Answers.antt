use Rattle.std.proofs.Common.{◌≡◌, ◌∙◌, ◌&&◌, sym, ap, List, true, false}
use Rattle.cf_view.specs.declared.base.Reason.TheVariants as reason
use Rattle.cf_policy.specs.declared.policy.Rule.{Rule}
use Rattle.cf_policy.specs.Index.{has_group_and_point, has_group_to_value, rule_at}
use Rattle.cf_policy.specs.Verdict.{decided, is_allow, numbered}
use Rattle.cf_policy.proofs.ByTable.{only_decides, only_default, only_points}
use Rattle.cf_policy.proofs.index.CodeIndex.verdict_of_only.Goals as goal

pub returns-then-rule_has-clause-decides : goal.returns-then-rule_has-clause-decides
returns-then-rule_has-clause-decides c = λ client index only.
    let rules = c.args.asset.now.rules in
    let act = c.args.act.now in
    let place = c.args.place in
    let has : rule_at rules place (λ r. has_group_to_value r act) ≡ true =
    ap (λ (l : List Rule). rule_at l place (λ r. has_group_to_value r act)) (sym c.as_slice-rules.ensures) ∙ sym c.rule_has.ensures ∙ c.if-rule_has.true in
    c.verdict_of_rule.ensures.decides reason.Value ∙ ap (λ (l : List Rule). decided (numbered l place) reason.Value) c.as_slice-rules.ensures
    ∙ sym (only_decides c.args.asset.now client act c.args.self.now.pairs index.pairs place only reason.Value has)

pub returns-else-rule_has-clause-decides : goal.returns-else-rule_has-clause-decides
returns-else-rule_has-clause-decides c = λ client index only.
    let rules = c.args.asset.now.rules in
    let act = c.args.act.now in
    let place = c.args.place in
    let lacks : rule_at rules place (λ r. has_group_to_value r act) ≡ false =
    ap (λ (l : List Rule). rule_at l place (λ r. has_group_to_value r act)) (sym c.as_slice-rules.ensures) ∙ sym c.rule_has.ensures ∙ c.if-rule_has.false in
    c.refusal.ensures.decides client index
    (c.allows_point.ensures ∙ ap (λ (l : List Rule). rule_at l place (λ r. is_allow r.action && has_group_and_point r act)) c.as_slice-rules.ensures
    ∙ only_points c.args.asset.now client act c.args.self.now.pairs index.pairs place only)
    ∙ sym (only_default c.args.asset.now client act c.args.self.now.pairs index.pairs place only lacks)
