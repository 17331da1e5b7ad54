use Rattle.std.proofs.Common.{◌∙◌, ◌^◌, ◌+◌, ◌<◌, Some, ap, sym, subst, option_map, IfSome}
use Rattle.cf_watch.specs.FlowValue.{flow_value}
use Rattle.cf_judge.specs.Objections.{objected, sooner}
use Rattle.cf_judge.proofs.Flows.{told_has}
use Rattle.cf_judge.proofs.judging.objection_of.Goals as goal

pub objected-requires : goal.objected-requires
objected-requires c =
    let asset = c.args.flow.now.asset in
    let told = told_has (2 ^ 32) asset c.args.flow.now.conflict c.args.first c.requires.places in
    subst (λ o. IfSome o (λ w. asset + w.place < 2 ^ 32))
    (sym (c.in-Some.ensures ∙ ap (λ o. sooner o c.args.first) c.conflict_in.ensures)) told

pub returns-in-Some : goal.returns-in-Some
returns-in-Some c =
    ap (λ w. Some w) c.objected.ensures
    ∙ ap (option_map (objected (flow_value c.args.flow.now))) (c.in-Some.ensures ∙ ap (λ o. sooner o c.args.first) c.conflict_in.ensures)

pub returns-in-None : goal.returns-in-None
returns-in-None c = ap (option_map (objected (flow_value c.args.flow.now))) (c.in-None.ensures ∙ ap (λ o. sooner o c.args.first) c.conflict_in.ensures)
