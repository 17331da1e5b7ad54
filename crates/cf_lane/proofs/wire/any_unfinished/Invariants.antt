use Rattle.std.proofs.Common.{List, false, ℕ, ◌<◌, ◌≡◌}
use Rattle.cf_dnptrans.specs.Transport.{unfinished}
use Rattle.cf_lane.specs.Kept.{StandOf}
use Rattle.std.specs.Prelude.{is_some}
use Rattle.cf_lane.proofs.wire.any_unfinished.Given as goal

-- no fragment before the place is unfinished
abbrev pub invariant-loop-k : goal.invariant-loop-k
invariant-loop-k l = (segments : ℕ → List (List ℕ)) → StandOf l.side l.all segments → (k : ℕ) → k < l.k → is_some (unfinished (segments k)) ≡ false
