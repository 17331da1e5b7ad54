use Rattle.cf_hosts.specs.Draws.{drawn}
use Rattle.cf_hosts.proofs.draws.Draws.new.Goals as goal

pub returns : goal.returns
unfolding drawn
returns c = c.seed_from_u64.ensures
