use Rattle.std.proofs.Common.{◌∙◌, ap, take}
use Rattle.cf_policy.specs.Index.{verdict_by}
use Rattle.cf_policy.proofs.ByCode.{verdict_is}
use Rattle.cf_policy.proofs.Fronts.{front_of}
use Rattle.cf_policy.proofs.index.CodeIndex.verdict.Goals as goal

pub returns-else-is_long-clause-decides : goal.returns-else-is_long-clause-decides
returns-else-is_long-clause-decides c = λ client index.
    let rest = c.pairs_from-pairs.result.now in
    let front = front_of c.args.act.now.code rest in
    let part = c.pairs_from-pairs.ensures index.pairs.ascending front.0 front.1 in
    c.verdict_of_front.ensures.decides front.0 front.1 ∙ ap (λ rules. verdict_by (take front.0 rest) rules c.args.act.now) c.as_slice.ensures
    ∙ verdict_is c.args.asset.now client c.args.act.now c.args.self.now.pairs (take front.0 rest) index.pairs part
