use Rattle.std.proofs.Common.{rules, leb, inl, inr}
use Rattle.std.proofs.lemmas.Bool.{cases_lt}
use Rattle.std.proofs.lemmas.List.Sorted.{IsPartitionPoint-from_clause, IsPartitionedBy-leb}
use Rattle.cf_watch.specs.declared.born.Piece.{Piece}
use Rattle.cf_watch.proofs.Pieces.{record_before, record_found}
use Rattle.cf_watch.proofs.born.record_by.Goals as goal

pub returns-in-Some : goal.returns-in-Some
returns-in-Some c = λ count are.
    let behind = c.partition_point-behind.result in
    let split = IsPartitionPoint-from_clause (λ (p : Piece). leb p.first c.args.place) _ _ c.partition_point-behind.ensures.partitioned
    (IsPartitionedBy-leb (λ (p : Piece). p.first) _ c.args.place are.rise) (λ a r q k. search rules) in
    record_found c.args.pieces.now c.args.place behind c.in-Some.last (record { first = 0; number = 0 }) c.partition_point-behind.ensures.bound c.in-Some.ensures split

pub returns-in-None : goal.returns-in-None
returns-in-None c = λ count are.
    let behind = c.partition_point-behind.result in
    let split = IsPartitionPoint-from_clause (λ (p : Piece). leb p.first c.args.place) _ _ c.partition_point-behind.ensures.partitioned
    (IsPartitionedBy-leb (λ (p : Piece). p.first) _ c.args.place are.rise) (λ a r q k. search rules) in
    record_before c.args.pieces.now c.args.place behind (elim (cases_lt behind 1) [ inl lt ↦ lt | inr ge ↦ absurd (c.in-None.ensures ge) ]) split
