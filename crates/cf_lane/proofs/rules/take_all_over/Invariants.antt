use Rattle.cf_lane.proofs.Starting.{AreTakenOver}
use Rattle.cf_lane.proofs.rules.take_all_over.Given as goal

-- the rules before the place are taken over
abbrev pub invariant-loop-place : goal.invariant-loop-place
invariant-loop-place l = AreTakenOver l.site l.client l.place l.fn.all l.all
