use Rattle.std.proofs.Common.{◌≡◌, ◌++◌, ◌∷◌, [], ap, ◌∙◌}
use Rattle.toml.specs.Data.{table}
use Rattle.toml.specs.declared.value.Value.TheVariants.{Table}
use Rattle.toml.proofs.Views.{view-Table}
use Rattle.cf_policylang.specs.Spelling.{rule_table}
use Rattle.cf_policylang.proofs.Written.{values_step}
use Rattle.cf_policylang.proofs.spelling.rule_tables.Goals as goal

pub loop-rule-preserved : goal.loop-rule-preserved
loop-rule-preserved c =
    let own = c.fill_rule.new.table in
    let items : c.push.new.self.items ≡ c.loop-rule.tables.items ++ Table own ∷ [] = c.in_ok-push.ensures.items in
    rw items
    (values_step (λ r. table (rule_table c.args.lists.now r)) c.loop-rule.tables.items (Table own) c.args.rules.now c.loop-rule.rule-index
    c.rule-item.result c.loop-rule-test.true
    (view-Table own ∙ (ap table c.in_ok-fill_rule.ensures ∙ ap (λ r. table (rule_table c.args.lists.now r)) c.rule-item.is))
    c.loop-rule.invariant)
