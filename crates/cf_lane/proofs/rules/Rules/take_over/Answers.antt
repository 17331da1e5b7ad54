use Rattle.cf_lane.proofs.Rated.{few_rated}
use Rattle.cf_lane.proofs.rules.Rules.take_over.Goals as goal

pub returns-clause-of_asset : goal.returns-clause-of_asset
returns-clause-of_asset c = record {
  index = c.in_ok-self.ensures.index;
  rings = c.requires.rings;
  few = few_rated c.args.asset.now.rules c.args.self.now.rings.items c.requires.rings c.requires.within.rules.rated;
}
