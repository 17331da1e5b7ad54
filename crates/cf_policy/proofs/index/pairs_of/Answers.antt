use Rattle.std.proofs.Common.{◌≡◌, ◌∙◌, sym, subst, ap, ltb, leb, length, drop, take, List, arith, rules, ◌≤◌, true, false}
use Rattle.std.proofs.lemmas.List.Sorted.{IsPartitionPoint-from_clause, IsPartitionedBy-leb, IsPartitionedBy-ltb, IsNonDecreasingBy-drop}
use Rattle.std.specs.List.Sorted.{IsNonDecreasingBy, IsPartitionPoint}
use Rattle.cf_policy.specs.declared.index.CodePair.{CodePair}
use Rattle.cf_policy.specs.Index.{IsPartOfCode}
use Rattle.cf_policy.proofs.CodePart.{codes_rise, halved}
use Rattle.cf_policy.proofs.index.pairs_of.Goals as goal

pub returns : goal.returns
returns c = λ up.
    let pairs = c.args.pairs.now in
    let code = c.args.code in
    let first = c.partition_point.result in
    let rise : IsNonDecreasingBy (λ p. p.code) pairs = codes_rise pairs up in
    let back : c.split_at.result.1.now ≡ drop first pairs = c.split_at.ensures.back in
    let rest_rise : IsNonDecreasingBy (λ p. p.code) c.split_at.result.1.now = subst (λ l. IsNonDecreasingBy (λ (p : CodePair). p.code) l) (sym back) (IsNonDecreasingBy-drop (λ p. p.code) first pairs rise) in
    let low = IsPartitionPoint-from_clause (λ p. ltb p.code code) _ _ c.partition_point.ensures.partitioned (IsPartitionedBy-ltb (λ p. p.code) _ code rise) (λ a r q k. search rules) in
    let high = IsPartitionPoint-from_clause (λ p. leb p.code code) _ _ c.partition_point-2.ensures.partitioned (IsPartitionedBy-leb (λ p. p.code) _ code rest_rise) (λ a r q k. search rules) in
    let room : c.partition_point-2.result ≤ length (drop first pairs) = omega (arith, ap length back) in
    let count = c.partition_point-2.result in
    let part = halved pairs code first count up c.partition_point.ensures.bound room low
    (subst (λ (l : List CodePair). IsPartitionPoint (λ p. leb p.code code ≡ true) (λ p. leb p.code code ≡ false) l count) back high) in
    subst (IsPartOfCode code pairs) (sym (c.split_at-2.ensures.front ∙ ap (λ l. take count l) back)) part
