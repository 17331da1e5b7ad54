use Rattle.cf_lane.specs.Rings.{AreNoted}
use Rattle.cf_lane.proofs.rules.note_all.Given as goal

-- the rings before the place are noted
abbrev pub invariant-loop-place : goal.invariant-loop-place
invariant-loop-place l = AreNoted l.place l.used l.moment l.fn.rings l.rings
