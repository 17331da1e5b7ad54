use Rattle.cf_policy.proofs.SiteLaws.{sites_begin, sites_whole, sites_within, stand_alone}
use Rattle.cf_policy.proofs.laws.sites_are_whole.Goals as goal

pub returns : goal.returns
returns c = record { whole = sites_whole; within = sites_within; first = sites_begin; lone = stand_alone }
