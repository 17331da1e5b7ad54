use Rattle.std.proofs.Common.{length}
use Rattle.cf_box.proofs.service.+are_apart.Given as goal

-- the places get fewer
abbrev pub decreases-are_apart : goal.decreases-are_apart
decreases-are_apart l = length l.places.now
