use Rattle.std.proofs.Common.{length}
use Rattle.cf_box.proofs.serve.+find_places.Given as goal

-- the words get fewer
abbrev pub decreases-find_places : goal.decreases-find_places
decreases-find_places l = length l.words.now
