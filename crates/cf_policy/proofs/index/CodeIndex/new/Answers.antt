use Rattle.std.proofs.Common.{subst, length, List}
use Rattle.std.proofs.lemmas.List.Filters.{dedup_is}
use Rattle.cf_policy.specs.Index.{HasPairsBelow, HasStarts}
use Rattle.cf_policy.specs.PointTable.{AreSortedCells, HasReaches}
use Rattle.cf_policy.specs.declared.policy.Rule.{Rule}
use Rattle.cf_policy.specs.declared.index.CodePair.{CodePair}
use Rattle.cf_policy.specs.declared.point_table.PointCell.{PointCell}
use Rattle.cf_policy.proofs.Pairs.{index_of, is_same_pair}
use Rattle.cf_policy.proofs.index.CodeIndex.new.Goals as goal

pub returns : goal.returns
returns c = record {
  index = record {
    pairs = index_of c.args.asset.now c.args.client c.in_ok-pairs.pairs.items c.sort_unstable.new.self.items c.dedup.new.self.items
        (subst (λ l. HasPairsBelow (length l) l c.args.client c.in_ok-pairs.pairs.items) c.as_slice.ensures c.in_ok-pairs.ensures) c.sort_unstable.ensures.permutation c.sort_unstable.ensures.sorted (dedup_is is_same_pair _ _ c.dedup.ensures.filtered);
    table = record {
      sorted = subst (λ (l : List Rule). AreSortedCells l c.dedup.new.self.items c.in_ok-cells.cells.items) c.as_slice-3.ensures
          (subst (λ (l : List CodePair). AreSortedCells c.as_slice-3.result.now l c.in_ok-cells.cells.items) c.as_slice-4.ensures.value c.in_ok-cells.ensures);
      reach = subst (λ (l : List PointCell). HasReaches l c.in_ok-reaches.reaches.items) c.as_slice-5.ensures.value c.in_ok-reaches.ensures;
    };
  };
}

pub invariant_of-result : goal.invariant_of-result
invariant_of-result c = subst (HasStarts c.starts_of-starts.result) c.as_slice-2.ensures.value c.starts_of-starts.ensures
