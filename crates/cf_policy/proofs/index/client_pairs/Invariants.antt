use Rattle.cf_policy.specs.Index.{HasPairsBelow}
use Rattle.cf_policy.proofs.index.client_pairs.Given as goal

abbrev pub invariant-loop-place : goal.invariant-loop-place
invariant-loop-place l = HasPairsBelow l.place l.rules l.client l.pairs.items
