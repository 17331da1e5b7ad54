use Rattle.std.proofs.Common.{◌∙◌, sym, subst, ap, true, List}
use Rattle.std.specs.Prelude.{slice_get}
use Rattle.std.specs.List.{list_all}
use Rattle.std.specs.Option.{option_map_or}
use Rattle.cf_policy.specs.Verdict.{is_empty}
use Rattle.cf_policy.specs.declared.policy.Rule.{Rule}
use Rattle.cf_policy.specs.Index.{ArePairsOf}
use Rattle.cf_policy.proofs.Runs.{any_value_taken, values_unstated}
use Rattle.cf_policy.proofs.index.CodeIndex.takes_any_value.Goals as goal

pub returns-clause-exact : goal.returns-clause-exact
returns-clause-exact c = λ client index.
    let own : ArePairsOf c.args.asset.now client c.pairs.result.now = subst (ArePairsOf c.args.asset.now client) (sym c.pairs.ensures) index.pairs in
    let part = c.pairs_of-pairs.ensures own.ascending in
    c.all_without_values.ensures
    ∙ ap (λ (rules : List Rule). list_all (λ p. option_map_or (λ r. is_empty r.values) (slice_get rules p.rule) true) c.pairs_of-pairs.result.now) c.as_slice.ensures
    ∙ values_unstated c.args.asset.now client c.args.code c.pairs.result.now c.pairs_of-pairs.result.now own part

pub returns-clause-free : goal.returns-clause-free
returns-clause-free c = λ client index yes.
    let own : ArePairsOf c.args.asset.now client c.pairs.result.now = subst (ArePairsOf c.args.asset.now client) (sym c.pairs.ensures) index.pairs in
    let part = c.pairs_of-pairs.ensures own.ascending in
    any_value_taken c.args.asset.now client c.args.code c.pairs.result.now c.pairs_of-pairs.result.now own part
    (ap (λ (rules : List Rule). list_all (λ p. option_map_or (λ r. is_empty r.values) (slice_get rules p.rule) true) c.pairs_of-pairs.result.now) (sym c.as_slice.ensures)
    ∙ sym c.all_without_values.ensures ∙ yes)
