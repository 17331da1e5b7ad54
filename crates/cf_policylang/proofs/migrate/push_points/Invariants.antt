use Rattle.std.proofs.Common.{◌≡◌, ◌++◌, map, take}
use Rattle.cf_policylang.proofs.migrate.push_points.Given as goal

-- what was appended
abbrev pub invariant-loop-rule : goal.invariant-loop-rule
invariant-loop-rule l = l.points.items ≡ l.initial.points.items ++ map (λ r. r.points) (take l.rule-index l.own)
