use Rattle.std.proofs.Common.{◌++◌, subst}
use Rattle.std.specs.Prelude.{IsPermutation}
use Rattle.std.proofs.lemmas.List.Filters.{dedup_is}
use Rattle.cf_learn.proofs.Same.{is_same_seen, same_once, strictly_once}
use Rattle.cf_learn.proofs.gathering.Gathering.settle.Goals as goal

pub returns-clause-same : goal.returns-clause-same
returns-clause-same c =
    same_once (c.args.self.now.sorted.items ++ c.args.self.now.loose.items) c.sort_unstable.new.self.items c.dedup.new.self.items
    (dedup_is is_same_seen _ _ c.dedup.ensures.filtered)
    (subst (λ l. IsPermutation l c.sort_unstable.new.self.items) c.in_ok-append.ensures.items c.sort_unstable.ensures.permutation)

pub returns-clause-once : goal.returns-clause-once
returns-clause-once c =
    strictly_once (c.args.self.now.sorted.items ++ c.args.self.now.loose.items) c.sort_unstable.new.self.items c.dedup.new.self.items
    (dedup_is is_same_seen _ _ c.dedup.ensures.filtered) c.sort_unstable.ensures.sorted
