use Rattle.std.proofs.Common.{◌≡◌, ◌∙◌, false, subst, sym}
use Rattle.std.specs.List.{list_any}
use Rattle.cf_explain.specs.Meets.{meets}
use Rattle.cf_explain.proofs.Reach.{never_has}
use Rattle.cf_explain.proofs.unmet.why_unmet.Goals as goal

pub returns-clause-never : goal.returns-clause-never
returns-clause-never c =
    never_has c.args.protocol c.args.rule.now c.args.code
    (subst (λ ks. list_any (meets c.args.rule.now) ks ≡ false) c.kinds-kinds.ensures (sym c.some_meets.ensures ∙ c.if-some_meets.false))
