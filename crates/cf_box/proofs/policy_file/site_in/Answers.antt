use Rattle.cf_box.proofs.Sites.{site_is, site_lacks}
use Rattle.cf_box.proofs.policy_file.site_in.Goals as goal

pub returns-in-Some-clause-named : goal.returns-in-Some-clause-named
returns-in-Some-clause-named c = site_is c.args.assets.now c.args.name.now c.in-Some.asset.now c.in-Some.ensures c.site_at.result c.site_at.ensures.site

pub returns-in-Some-clause-none : goal.returns-in-Some-clause-none
returns-in-Some-clause-none c = site_lacks c.args.assets.now c.args.name.now c.in-Some.asset.now c.in-Some.ensures c.site_at.result c.site_at.ensures.site

pub returns-in-Some-clause-within : goal.returns-in-Some-clause-within
returns-in-Some-clause-within c = c.site_at.ensures.within c.requires
