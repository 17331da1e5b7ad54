use Rattle.std.proofs.Common.{◌≡◌, drop}
use Rattle.std.specs.List.{list_any}
use Rattle.cf_policylang.proofs.migrate.some_logs.Given as goal

-- what is left has one exactly where the whole has one
abbrev pub invariant-loop-rule : goal.invariant-loop-rule
invariant-loop-rule l = list_any (λ r. r.log) (drop l.rule-index l.rules) ≡ list_any (λ r. r.log) l.rules
