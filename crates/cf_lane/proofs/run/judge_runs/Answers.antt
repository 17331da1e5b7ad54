use Rattle.std.proofs.Common.{arith, eqb-true, length, sym, ◌∙◌, ◌≡◌}
use Rattle.std.specs.Vec.{vec_len}
use Rattle.cf_modbus.specs.Acts.{acts}
use Rattle.cf_modbus.specs.Request.{request_value}
use Rattle.cf_lane.proofs.Unrated.{fate_without_rates}
use Rattle.cf_lane.proofs.run.judge_runs.Goals as goal

pub returns-then-is_empty-clause-fate : goal.returns-then-is_empty-clause-fate
returns-then-is_empty-clause-fate c = λ client is.
    (let rings = c.args.rules.now.rings in
    let no_ring : length rings.items ≡ 0 = omega (arith, rings.ok.0, eqb-true (vec_len rings) 0 (sym c.if-is_empty.ensures)) in
    c.judge_unrated_runs.ensures.fate client is.index ∙ fate_without_rates c.args.asset.now client c.args.rules.now c.args.moment (acts (request_value c.args.request.now)) is no_ring)
