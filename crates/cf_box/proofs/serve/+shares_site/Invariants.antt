use Rattle.std.proofs.Common.{length}
use Rattle.cf_box.proofs.serve.+shares_site.Given as goal

-- the places get fewer
abbrev pub decreases-shares_site : goal.decreases-shares_site
decreases-shares_site l = length l.places.now
