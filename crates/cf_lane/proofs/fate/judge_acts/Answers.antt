use Rattle.std.proofs.Common.{arith, eqb-true, length, sym, ◌∙◌, ◌≡◌}
use Rattle.std.specs.Vec.{vec_len}
use Rattle.cf_lane.proofs.Unrated.{fate_without_rates}
use Rattle.cf_lane.proofs.fate.judge_acts.Goals as goal

pub returns-then-is_empty-clause-fate : goal.returns-then-is_empty-clause-fate
returns-then-is_empty-clause-fate g c = λ client acts is size gives.
    (let rings = c.args.rules.now.rings in
    let no_ring : length rings.items ≡ 0 = omega (arith, rings.ok.0, eqb-true (vec_len rings) 0 (sym c.if-is_empty.ensures)) in
    c.judge_unrated.ensures.fate client acts is.index size gives ∙ fate_without_rates c.args.asset.now client c.args.rules.now c.args.moment acts is no_ring)
