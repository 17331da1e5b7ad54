use Rattle.cf_review.proofs.SynFlows.{are_watched}
use Rattle.cf_review.proofs.laws.syn_flows_are_watched.Goals as goal

pub returns : goal.returns
returns c = are_watched
