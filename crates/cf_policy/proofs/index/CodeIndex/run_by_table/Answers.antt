use Rattle.std.proofs.Common.{sym, subst, ℕ, List, arith}
use Rattle.cf_policy.specs.declared.policy.Rule.{Rule}
use Rattle.cf_policy.specs.declared.point_table.PointCell.{PointCell}
use Rattle.cf_policy.specs.declared.point_table.Taker.TheVariants.{Nobody, Only}
use Rattle.cf_policy.specs.PointTable.{HasTaker, IsTableOf, takes_point}
use Rattle.cf_policy.specs.Run.{IsSteady}
use Rattle.cf_policy.proofs.ByTable.{narrow, nobody_points, nobody_run, only_run}
use Rattle.cf_policy.proofs.index.CodeIndex.run_by_table.Goals as goal

pub returns-in-Nobody-clause-run : goal.returns-in-Nobody-clause-run
returns-in-Nobody-clause-run c = λ client index.
    let asset = c.args.asset.now in
    let act = c.args.act.now in
    let pairs = c.args.self.now.pairs in
    let table : IsTableOf asset.rules pairs c.table.result.0.now c.table.result.1.now =
    subst (λ (l : List PointCell). IsTableOf asset.rules pairs l c.table.result.1.now) (sym c.table.ensures.cells)
    (subst (λ (l : List ℕ). IsTableOf asset.rules pairs c.args.self.now.cells l) (sym c.table.ensures.reaches) index.table) in
    let until = c.find_taker-taker.result.1 in
    let none : HasTaker asset.rules pairs act.code act.point until Nobody =
    subst (HasTaker asset.rules pairs act.code act.point until) c.in-Nobody.is (c.find_taker-taker.ensures.taker asset.rules pairs table) in
    let some = c.find_taker-taker.ensures.reaches in
    let here = narrow asset.rules pairs act.code act.point until act.point Nobody none (omega arith) some in
    nobody_run asset client act pairs index.pairs until some c.refusal.result none
    (c.refusal.ensures.decides client index (nobody_points asset client act pairs index.pairs here))

pub returns-in-Only-clause-run : goal.returns-in-Only-clause-run
returns-in-Only-clause-run c = λ client index.
    let asset = c.args.asset.now in
    let act = c.args.act.now in
    let pairs = c.args.self.now.pairs in
    let place = c.in-Only.place in
    let table : IsTableOf asset.rules pairs c.table.result.0.now c.table.result.1.now =
    subst (λ (l : List PointCell). IsTableOf asset.rules pairs l c.table.result.1.now) (sym c.table.ensures.cells)
    (subst (λ (l : List ℕ). IsTableOf asset.rules pairs c.args.self.now.cells l) (sym c.table.ensures.reaches) index.table) in
    let until = c.find_taker-taker.result.1 in
    let only : HasTaker asset.rules pairs act.code act.point until (Only place) =
    subst (HasTaker asset.rules pairs act.code act.point until) c.in-Only.is (c.find_taker-taker.ensures.taker asset.rules pairs table) in
    let some = c.find_taker-taker.ensures.reaches in
    let here = narrow asset.rules pairs act.code act.point until act.point (Only place) only (omega arith) some in
    let last = c.rule_until-until.result in
    only_run asset client act pairs index.pairs until some place last c.verdict_of_only.result c.rule_until-until.ensures.stays c.rule_until-until.ensures.reaches only
    (subst (λ (l : List Rule). IsSteady (λ p. takes_point l place p) act.point last) c.as_slice.ensures c.rule_until-until.ensures.steady)
    (c.verdict_of_only.ensures.decides client index here)
