use Rattle.std.proofs.Common.{List, subst, sym, ap, drop, ◌≡◌, ◌∙◌}
use Rattle.cf_policy.specs.declared.index.CodePair.{CodePair}
use Rattle.cf_policy.specs.Index.{IndexValue, IsFrontOf, IsPartOfCode}
use Rattle.std.specs.Prelude.{take}
use Rattle.cf_policy.proofs.CodePart.{front_is_part}
use Rattle.cf_policy.proofs.index.CodeIndex.pairs_from.Goals as goal

pub returns : goal.returns
returns c = λ up count front.
    let pairs = c.args.self.now.pairs in
    let code = c.args.code in
    let first = c.start.result in
    let rest : c.split_at.result.1.now ≡ drop first pairs = c.split_at.ensures.back ∙ ap (drop first) (c.as_slice.ensures.value ∙ ap (λ (i : IndexValue). i.pairs) c.self.view_is) in
    subst (λ (l : List CodePair). IsPartOfCode code pairs (take count l)) (sym rest)
    (front_is_part pairs code first count up c.start.ensures.0 (c.start.ensures.1 up) (subst (λ (l : List CodePair). IsFrontOf code l count) rest front))
