use Rattle.std.proofs.Common.{◌∙◌, ◌+◌, ap, map, subst, sym}
use Rattle.cf_covered.specs.Outlines.{rules_of}
use Rattle.cf_covered.proofs.OutlineLooks.{Looked, first_told, hull_at, none_told, one_more_apart, one_more_looked}
use Rattle.cf_covered.proofs.including.look.Goals.{then-overlap+else-includes_rule+in_ok-push_common, else-overlap}
use Rattle.cf_covered.proofs.including.look.Goals as goal

pub returns-then-includes_rule : goal.returns-then-includes_rule
returns-then-includes_rule c =
    first_told c.args.earlier.now c.args.outline.now.rule.now c.loop-number.number c.index-earlier-number.result _ c.loop-number-test.true
    c.index-earlier-number.is (sym c.includes_rule.ensures ∙ c.if-includes_rule.true) c.loop-number.invariant

pub loop-number-preserved : goal.loop-number-preserved
loop-number-preserved c =
    let rules = rules_of c.args.earlier.now in
    let own = c.args.outline.now.rule.now in
    let i = c.loop-number.number in
    let other = c.index-earlier-number.result in
    let found = map (λ r. r.now) c.loop-number.common.items in
    elim c.if-overlap.branch [
      | then-overlap+else-includes_rule+in_ok-push_common w ↦
          subst (Looked rules own (i + 1)) (sym (ap (λ l. map (λ r. r.now) l.items) w.common-is ∙ w.in_ok-push_common.ensures))
          (one_more_looked c.args.earlier.now own i other found c.loop-number-test.true c.index-earlier-number.is
          (sym w.includes_rule.ensures ∙ w.if-includes_rule.false) c.loop-number.invariant)
      | else-overlap w ↦
          subst (λ l. Looked rules own (i + 1) (map (λ r. r.now) l.items)) (sym w.common-is)
          (one_more_apart c.args.earlier.now other c.args.outline.now i found c.loop-number-test.true c.index-earlier-number.is
          (hull_at c.args.earlier.now i other c.loop-number-test.true c.index-earlier-number.is c.requires.hulls) c.requires.hull
          (sym c.overlap.ensures ∙ w.if-overlap.false) c.loop-number.invariant)
    ]

pub returns : goal.returns
returns c = none_told c.args.earlier.now c.args.outline.now.rule.now c.loop-number.number _ c.loop-number-test.false c.loop-number.invariant
