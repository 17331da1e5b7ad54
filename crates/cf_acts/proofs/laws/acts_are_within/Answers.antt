use Rattle.cf_acts.proofs.Ranges.{act_within}
use Rattle.cf_acts.proofs.laws.acts_are_within.Goals as goal

pub returns : goal.returns
returns c = act_within
