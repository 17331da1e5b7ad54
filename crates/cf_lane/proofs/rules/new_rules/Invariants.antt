use Rattle.cf_lane.proofs.Starting.{AreRulesSoFar}
use Rattle.cf_lane.proofs.rules.new_rules.Given as goal

-- the rules of the assets before the place
abbrev pub invariant-loop-place : goal.invariant-loop-place
invariant-loop-place l = AreRulesSoFar l.site l.client l.place l.all.items
