use Rattle.std.proofs.Common.{leb, leb-true, leb-false, rules}
use Rattle.std.proofs.lemmas.List.Sorted.{IsPartitionPoint-from_clause, IsPartitionedBy-leb}
use Rattle.cf_policy.proofs.point_table.cells_until.Goals as goal

pub returns-clause-until : goal.returns-clause-until
returns-clause-until c = λ up.
    let place = c.args.place in
    let found = IsPartitionPoint-from_clause (λ cell. leb cell.first place) _ _ c.partition_point.ensures.partitioned
    (IsPartitionedBy-leb (λ cell. cell.first) _ place up) (λ a r q k. search rules) in (
      λ k d from to. leb-true _ place (found.0 k d from to),
      λ k d from to. leb-false _ place (found.1 k d from to),
    )
