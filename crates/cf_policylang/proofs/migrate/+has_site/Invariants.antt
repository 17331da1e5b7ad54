use Rattle.std.proofs.Common.{length}
use Rattle.cf_policylang.proofs.migrate.+has_site.Given as goal

abbrev pub decreases-has_site : goal.decreases-has_site
decreases-has_site l = length l.assets.now
