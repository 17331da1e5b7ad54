use Rattle.std.proofs.Common.{◌≡◌, ◌-◌, ◌<◌, ◌≤◌, None, false, sym, subst, arith, rules}
use Rattle.cf_modbus.proofs.ActLists.{count_of_acts}
use Rattle.cf_modbus.specs.Acts.{acts}
use Rattle.cf_modbus.specs.Request.{request_value}
use Rattle.cf_lane.specs.Run.{AreRun}
use Rattle.cf_lane.proofs.Runs.{has_code, second_run, first_run, one_run, first_fits, second_fits}
use Rattle.cf_lane.proofs.run.last_of_run.Goals as goal
use Rattle.cf_lane.proofs.run.last_of_run.Goals.{then-any_value, else-any_value}

pub returns-then-i-first-clause-run : goal.returns-then-i-first-clause-run
returns-then-i-first-clause-run c =
    let r = request_value c.args.request.now in
    let past : r.quantity ≤ c.args.i = omega (arith, c.if-i-first.true, c.from-first.ensures) in
    subst (λ n. AreRun (acts r) c.args.i (n - 1) c.args.act.now c.args.any_value) (sym c.act_count.ensures.count)
    (second_run r c.args.i c.args.act.now c.requires.act c.args.any_value past c.requires.inside)

pub returns-then-i-first-clause-fits : goal.returns-then-i-first-clause-fits
returns-then-i-first-clause-fits c =
    let r = request_value c.args.request.now in
    let past : r.quantity ≤ c.args.i = omega (arith, c.if-i-first.true, c.from-first.ensures) in
    let fits = second_fits r c.requires.read c.args.i c.args.act.now c.requires.act past c.requires.inside in
    omega (arith, fits, c.act_count.ensures.count)

pub returns-then-i-first-clause-code : goal.returns-then-i-first-clause-code
returns-then-i-first-clause-code c = has_code (request_value c.args.request.now) c.args.i c.args.act.now c.requires.act c.requires.inside

pub returns-then-is_none-clause-run : goal.returns-then-is_none-clause-run
returns-then-is_none-clause-run c =
    let r = request_value c.args.request.now in
    let lt : c.args.i < r.quantity = omega (arith, c.if-i-first.false, c.from-first.ensures) in
    let none : c.args.any_value ≡ false → c.args.act.now.value ≡ None = elim c.if-any_value.branch [
      | then-any_value w ↦ λ no. cc
      | else-any_value w ↦ λ no. search rules
    ] in
    subst (λ n. AreRun (acts r) c.args.i (n - 1) c.args.act.now c.args.any_value) (sym c.from-first.ensures)
    (first_run r c.args.i c.args.act.now c.requires.act c.args.any_value lt none)

pub returns-then-is_none-clause-within : goal.returns-then-is_none-clause-within
returns-then-is_none-clause-within c =
    omega (arith, c.if-i-first.false, c.from-first.ensures, count_of_acts (request_value c.args.request.now), c.requires.inside)

pub returns-then-is_none-clause-fits : goal.returns-then-is_none-clause-fits
returns-then-is_none-clause-fits c =
    let r = request_value c.args.request.now in
    let lt : c.args.i < r.quantity = omega (arith, c.if-i-first.false, c.from-first.ensures) in
    let fits = first_fits r c.requires.read c.args.i c.args.act.now c.requires.act lt in
    omega (arith, fits, c.from-first.ensures)

pub returns-then-is_none-clause-code : goal.returns-then-is_none-clause-code
returns-then-is_none-clause-code c = has_code (request_value c.args.request.now) c.args.i c.args.act.now c.requires.act c.requires.inside

pub returns-else-is_none-clause-run : goal.returns-else-is_none-clause-run
returns-else-is_none-clause-run c = one_run (request_value c.args.request.now) c.args.i c.args.act.now c.requires.act c.args.any_value

pub returns-else-is_none-clause-fits : goal.returns-else-is_none-clause-fits
returns-else-is_none-clause-fits c =
    let r = request_value c.args.request.now in
    let lt : c.args.i < r.quantity = omega (arith, c.if-i-first.false, c.from-first.ensures) in
    let fits = first_fits r c.requires.read c.args.i c.args.act.now c.requires.act lt in
    omega (arith, fits, lt)

pub returns-else-is_none-clause-code : goal.returns-else-is_none-clause-code
returns-else-is_none-clause-code c = has_code (request_value c.args.request.now) c.args.i c.args.act.now c.requires.act c.requires.inside
