use Rattle.std.proofs.Common.{◌≡◌, map, take}
use Rattle.cf_compare.proofs.rows.rows_of.Given as goal

abbrev pub invariant-loop-rule : goal.invariant-loop-rule
invariant-loop-rule l = l.rows.items ≡ map (λ r. r.now) (take l.rule-index l.rules)
