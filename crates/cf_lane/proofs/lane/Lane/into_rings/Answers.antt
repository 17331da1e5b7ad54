use Rattle.std.proofs.Common.{subst, sym}
use Rattle.cf_lane.specs.Handled.{LaneValue}
use Rattle.cf_lane.specs.SiteRates.{used_at}
use Rattle.cf_lane.specs.Rings.{AreRingsOf, KnowRings, rings_in}
use Rattle.cf_lane.proofs.Saying.{rings_known, rings_of_site}
use Rattle.cf_lane.proofs.lane.Lane.into_rings.Goals as goal

pub returns-clause-of_site : goal.returns-clause-of_site
returns-clause-of_site c = λ site of. subst (λ (l : LaneValue). AreRingsOf site (rings_in l.rules)) (sym c.self.view_is) (rings_of_site site _ _ of.rules)

pub returns-clause-know : goal.returns-clause-know
returns-clause-know c = λ site before judged know. subst (λ (l : LaneValue). KnowRings (rings_in l.rules) (used_at site before judged)) (sym c.self.view_is) (rings_known site before _ judged know)
