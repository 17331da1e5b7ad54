use Rattle.std.proofs.Common.{ltb, rules}
use Rattle.std.proofs.lemmas.List.Sorted.{IsPartitionPoint-from_clause, IsPartitionedBy-ltb}
use Rattle.cf_policy.proofs.CodePart.{codes_rise}
use Rattle.cf_policy.proofs.index.start_of.Goals as goal

pub returns : goal.returns
returns c = (
  c.partition_point.ensures.bound,
  λ up.
      IsPartitionPoint-from_clause (λ p. ltb p.code c.args.code) _ _ c.partition_point.ensures.partitioned
      (IsPartitionedBy-ltb (λ p. p.code) _ c.args.code (codes_rise c.args.pairs.now up)) (λ a r q k. search rules),
)
