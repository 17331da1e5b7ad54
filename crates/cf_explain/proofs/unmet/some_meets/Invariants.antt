use Rattle.std.proofs.Common.{◌≡◌, drop}
use Rattle.std.specs.List.{list_any}
use Rattle.cf_explain.specs.Meets.{meets}
use Rattle.cf_explain.proofs.unmet.some_meets.Given as goal

-- what is left has one exactly where the whole has one
abbrev pub invariant-loop-kind : goal.invariant-loop-kind
invariant-loop-kind l = list_any (meets l.rule) (drop l.kind-index l.kinds) ≡ list_any (meets l.rule) l.kinds
