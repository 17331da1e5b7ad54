use Rattle.std.proofs.Common.{◌≡◌, take}
use Rattle.toml.specs.View.{items_view}
use Rattle.cf_policylang.specs.Spelling.{rule_tables}
use Rattle.cf_policylang.proofs.spelling.rule_tables.Given as goal

-- what was written
abbrev pub invariant-loop-rule : goal.invariant-loop-rule
invariant-loop-rule l = items_view l.tables.items ≡ rule_tables l.lists (take l.rule-index l.rules)
