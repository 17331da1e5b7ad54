use Rattle.std.proofs.Common.{◌∙◌, pos, sym, arith}
use Rattle.std.proofs.lemmas.Bool.{true≢false, false_from_ne_true}
use Rattle.cf_covered.proofs.RegionActs.{has_each, in_each}
use Rattle.cf_covered.proofs.regions.lacked_region.Goals as goal

pub returns-in-Some-lacked_part-clause-lacked : goal.returns-in-Some-lacked_part-clause-lacked
returns-in-Some-lacked_part-clause-lacked c = λ client act inside. let lacks = c.in-Some-lacked_part.ensures.lacked (pos act.group) in grind arith

pub returns-in-Some-lacked_part-2-clause-lacked : goal.returns-in-Some-lacked_part-2-clause-lacked
returns-in-Some-lacked_part-2-clause-lacked c = λ client act inside.
    false_from_ne_true _ (λ has. true≢false (sym (has_each c.args.rule.now client act has).points ∙ c.in-Some-lacked_part-2.ensures.lacked (pos act.point) (in_each _ client act inside).points))

pub returns-clause-lacked : goal.returns-clause-lacked
returns-clause-lacked c = λ client act inside. let lacks = c.in_ok-values.ensures.lacked act.value in grind arith
