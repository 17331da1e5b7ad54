use Rattle.std.proofs.Common.{◌∙◌, ap, sym}
use Rattle.toml.specs.View.{table_view, view}
use Rattle.cf_policy.specs.declared.policy.Rule.{Rule}
use Rattle.cf_policylang.specs.declared.refusal.Key.TheVariants as key
use Rattle.cf_policylang.specs.Fields.{as_table}
use Rattle.cf_policylang.specs.Rules.{rule, rules_from}
use Rattle.cf_policylang.specs.Tested.{at_asset, at_rule}
use Rattle.cf_policylang.proofs.Readings.{at_end, hands_on, no_table, refuses, runs_out, table_read, table_unread}
use Rattle.cf_policylang.proofs.rules.rules_from.Goals as goal

pub returns-in_err-table : goal.returns-in_err-table
returns-in_err-table c =
    let at = ap (λ place. as_table key.Rule place (view c.value-item.result)) c.asset.ensures in
    refuses (λ r. r) _ c.from_residual.result c.in_err-table.field-0.0 c.from_residual.ensures.1
    (sym c.loop-index.invariant
    ∙ no_table key.Rule (at_asset c.args.asset) (λ n. rule c.args.named.now c.args.protocol (at_rule c.args.asset n)) c.deref-value-items.result.now
    c.args.array.now.items c.deref-value-items.ensures.value c.loop-index.index c.value-item.result c.loop-index-test.true c.value-item.is
    c.loop-index.earlier c.in_err-table.field-0.0 (sym at ∙ c.in_err-table.ensures))

pub returns-in_err-rule : goal.returns-in_err-rule
returns-in_err-rule c =
    let members = table_view c.in_ok-table.table.now in
    let at = ap (λ place. as_table key.Rule place (view c.value-item.result)) c.asset.ensures in
    let place = ap (λ place. rule c.args.named.now c.args.protocol place c.loop-index.earlier members) c.rule_place-place.ensures in
    hands_on (λ r. r) _ c.from_residual-in_err-rule.result (λ (r : Rule). r) _ c.in_err-rule.field-0.0 c.from_residual-in_err-rule.ensures.1
    c.in_err-rule.ensures
    (λ r none. sym c.loop-index.invariant
    ∙ table_unread key.Rule (at_asset c.args.asset) (λ n. rule c.args.named.now c.args.protocol (at_rule c.args.asset n))
    c.deref-value-items.result.now c.args.array.now.items c.deref-value-items.ensures.value c.loop-index.index c.value-item.result
    c.loop-index-test.true c.value-item.is c.loop-index.earlier members (sym at ∙ c.in_ok-table.ensures) r (sym place ∙ none))

pub returns-in_err-earlier : goal.returns-in_err-earlier
returns-in_err-earlier c = runs_out (λ r. r) _ c.from_residual-in_err-earlier.result c.from_residual-in_err-earlier.ensures.1

pub loop-index-preserved : goal.loop-index-preserved
loop-index-preserved c =
    let members = table_view c.in_ok-table.table.now in
    let at = ap (λ place. as_table key.Rule place (view c.value-item.result)) c.asset.ensures in
    let place = ap (λ place. rule c.args.named.now c.args.protocol place c.loop-index.earlier members) c.rule_place-place.ensures in
    let next =
    table_read key.Rule (at_asset c.args.asset) (λ n. rule c.args.named.now c.args.protocol (at_rule c.args.asset n)) c.deref-value-items.result.now
    c.args.array.now.items c.deref-value-items.ensures.value c.loop-index.index c.value-item.result c.loop-index-test.true c.value-item.is
    c.loop-index.earlier members (sym at ∙ c.in_ok-table.ensures) c.in_ok-rule.rule (sym place ∙ c.in_ok-rule.ensures) in
    rw c.in_ok-earlier.ensures (sym next ∙ c.loop-index.invariant)

pub returns : goal.returns
returns c =
    let end = at_end (λ items. rules_from c.args.named.now c.args.protocol c.args.asset c.loop-index.index items c.loop-index.earlier)
    c.deref-value-items.result.now c.args.array.now.items c.deref-value-items.ensures.value c.loop-index.index c.loop-index-test.false in
    rw c.into_items.ensures (sym c.loop-index.invariant ∙ end)
