use Rattle.std.proofs.Common.{rules}
use Rattle.std.proofs.lemmas.List.Sorted.{IsNonDecreasingBy-from_sort_by_key}
use Rattle.cf_policy.proofs.PointTable.{sorted_cells}
use Rattle.cf_policy.proofs.point_table.sorted_cells.Goals as goal

pub returns : goal.returns
returns c =
    let sorted = c.sort_unstable_by_key.new.self.items in
    sorted_cells c.args.rules.now c.args.pairs.now _ sorted c.in_ok-cells.ensures c.sort_unstable_by_key.ensures.permutation
    (IsNonDecreasingBy-from_sort_by_key (λ cell. cell.first) sorted c.sort_unstable_by_key.ensures.sorted (λ a r q k. search rules))
