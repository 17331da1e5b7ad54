use Rattle.cf_lane.proofs.Rated.{rate_within}
use Rattle.cf_lane.proofs.rules.push_ring.Goals as goal

pub new-requires : goal.new-requires
new-requires c = rate_within c.args.rule.now.action c.args.rule.now.rate c.in-Some.rate c.in-Some.is c.requires.within.rate
