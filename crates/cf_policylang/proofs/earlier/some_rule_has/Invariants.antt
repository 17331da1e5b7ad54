use Rattle.std.proofs.Common.{◌≡◌, drop}
use Rattle.std.specs.Prelude.{bytes_eq}
use Rattle.std.specs.List.{list_any}
use Rattle.cf_policylang.proofs.earlier.some_rule_has.Given as goal

-- what is left has one exactly where the whole has one
abbrev pub invariant-loop-rule : goal.invariant-loop-rule
invariant-loop-rule l = list_any (λ r. bytes_eq r.name l.name) (drop l.rule-index l.rules) ≡ list_any (λ r. bytes_eq r.name l.name) l.rules
