use Rattle.std.proofs.Common.{All, refl, sym, subst, ◌∙◌}
use Rattle.cf_explain.specs.Rules.{Holds}
use Rattle.cf_explain.proofs.Codes.{all_listed, none_added, some_weaker}
use Rattle.cf_explain.proofs.found.partial_findings.Goals as goal

pub returns-clause-so : goal.returns-clause-so
returns-clause-so c =
    let first = subst (λ xs. All (Holds c.args.asset.now c.args.number c.args.rule.now) xs) (sym c.in_ok-put.ensures)
    (all_listed (Holds c.args.asset.now c.args.number c.args.rule.now) c.in_ok-found.found.items c.reads_finding.result c.in_ok-found.ensures.so
    (some_weaker _ (Holds c.args.asset.now c.args.number c.args.rule.now) c.reads_finding.result (λ x h. h c.args.asset.now c.args.number refl) c.reads_finding.ensures.so)) in
    subst (λ xs. All (Holds c.args.asset.now c.args.number c.args.rule.now) xs) (sym c.in_ok-put-2.ensures)
    (all_listed (Holds c.args.asset.now c.args.number c.args.rule.now) c.put.new.found.items c.covered_finding.result first
    (some_weaker _ (Holds c.args.asset.now c.args.number c.args.rule.now) c.covered_finding.result (λ x h. h c.args.asset.now c.args.number c.args.rule.now c.requires.earlier) c.covered_finding.ensures.so))

pub returns-clause-nothing : goal.returns-clause-nothing
returns-clause-nothing c = λ empty.
    let two = none_added c.put.new.found.items c.covered_finding.result (sym c.in_ok-put-2.ensures ∙ empty) in
    let one = none_added c.in_ok-found.found.items c.reads_finding.result (sym c.in_ok-put.ensures ∙ two.0) in
    let uncovered = c.covered_finding.ensures.none two.1 c.args.asset.now.rules c.args.number c.args.rule.now c.requires.earlier c.requires.rule in
    (c.in_ok-found.ensures.nothing one.0, c.reads_finding.ensures.none one.1, uncovered)
