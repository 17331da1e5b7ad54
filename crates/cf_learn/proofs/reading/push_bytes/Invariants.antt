use Rattle.std.proofs.Common.{◌-◌, ◌++◌, length}
use Rattle.cf_learn.specs.Polls.{AreGathered}
use Rattle.cf_learn.proofs.Fronts.{IsGatheredAt}
use Rattle.cf_learn.proofs.reading.push_bytes.Given as goal

abbrev pub invariant-loop-front : goal.invariant-loop-front
invariant-loop-front l = record {
  gathered : IsGatheredAt l.asset l.client l.bytes l.at l.assembly (l.fn.seen.sorted.items ++ l.fn.seen.loose.items)
      (l.seen.sorted.items ++ l.seen.loose.items) l.front;
  polls : AreGathered (l.seen.sorted.items ++ l.seen.loose.items) l.polls;
}

abbrev pub decreases-loop-front : goal.decreases-loop-front
decreases-loop-front l = length l.bytes - l.at
