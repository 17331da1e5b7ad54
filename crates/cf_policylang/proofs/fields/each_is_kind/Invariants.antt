use Rattle.std.proofs.Common.{◌≡◌, drop}
use Rattle.std.specs.List.{list_all}
use Rattle.toml.specs.View.{view}
use Rattle.cf_policylang.specs.Fields.{is_kind}
use Rattle.cf_policylang.proofs.fields.each_is_kind.Given as goal

-- what is left has one exactly where the whole has one
abbrev pub invariant-loop-value : goal.invariant-loop-value
invariant-loop-value l = list_all (λ v. is_kind l.kind (view v)) (drop l.value-index l.values) ≡ list_all (λ v. is_kind l.kind (view v)) l.values
