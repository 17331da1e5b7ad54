use Rattle.std.proofs.Common.{length}
use Rattle.cf_box.proofs.service.+push_places.Given as goal

-- the words get fewer
abbrev pub decreases-push_places : goal.decreases-push_places
decreases-push_places l = length l.words.now
