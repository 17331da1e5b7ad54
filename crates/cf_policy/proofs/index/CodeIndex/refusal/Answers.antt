use Rattle.std.proofs.Common.{◌∙◌, ◌&&◌, if◌then◌else◌, not, sym, subst, ap, List}
use Rattle.std.specs.List.{list_any}
use Rattle.cf_view.specs.declared.base.Reason.TheVariants as reason
use Rattle.cf_policy.specs.declared.policy.Rule.{Rule}
use Rattle.cf_policy.specs.declared.policy.Decider.TheVariants as decider
use Rattle.cf_policy.specs.declared.policy.Verdict.TheVariants as verdict
use Rattle.cf_policy.specs.Index.{ArePairsOf, has_group, rule_at}
use Rattle.cf_policy.specs.Verdict.{is_allow}
use Rattle.cf_policy.proofs.ByTable.{group_same}
use Rattle.cf_policy.proofs.index.CodeIndex.refusal.Goals as goal

pub returns-clause-decides : goal.returns-clause-decides
returns-clause-decides c = λ client index told.
    let act = c.args.act.now in
    let rules = c.args.asset.now.rules in
    let own : ArePairsOf c.args.asset.now client c.pairs.result.now = subst (ArePairsOf c.args.asset.now client) (sym c.pairs.ensures) index.pairs in
    let part = c.pairs_of-pairs.ensures own.ascending in
    let part_pairs = c.pairs_of-pairs.result.now in
    let group = c.some_allows_group-group.ensures
    ∙ ap (λ (l : List Rule). list_any (λ p. rule_at l p.rule (λ r. is_allow r.action && has_group r act)) part_pairs) c.as_slice.ensures
    ∙ group_same c.args.asset.now client act c.pairs.result.now part_pairs own part in
    ap (verdict.Refuse decider.Default) (c.reason_of.ensures
    ∙ (λ i. if not (group i) then reason.Function else if not (told i) then reason.Point else reason.Value))
