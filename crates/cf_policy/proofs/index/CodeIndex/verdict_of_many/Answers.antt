use Rattle.std.proofs.Common.{List, ◌∙◌, ap, arith, subst, sym}
use Rattle.cf_policy.specs.declared.policy.Rule.{Rule}
use Rattle.cf_policy.specs.Index.{ArePairsOf, verdict_by}
use Rattle.cf_policy.proofs.ByCode.{verdict_is}
use Rattle.cf_policy.proofs.index.CodeIndex.verdict_of_many.Goals as goal

pub returns-in-Some-clause-decides : goal.returns-in-Some-clause-decides
returns-in-Some-clause-decides c = λ client index.
    sym (c.in-Some.ensures.run client index c.args.act.now.point (omega arith) c.in-Some.ensures.reaches)

pub returns-in-None-clause-decides : goal.returns-in-None-clause-decides
returns-in-None-clause-decides c = λ client index.
    let own : ArePairsOf c.args.asset.now client c.pairs.result.now = subst (ArePairsOf c.args.asset.now client) (sym c.pairs.ensures) index.pairs in
    let part = c.pairs_of-pairs.result.now in
    c.verdict_at.ensures.decides ∙ ap (λ (rules : List Rule). verdict_by part rules c.args.act.now) c.as_slice-rules.ensures
    ∙ verdict_is c.args.asset.now client c.args.act.now c.pairs.result.now part own (c.pairs_of-pairs.ensures own.ascending)
