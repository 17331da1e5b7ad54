use Rattle.cf_box.proofs.Sites.{lacks_over, site_over}
use Rattle.cf_box.proofs.policy_file.find_site.Goals as goal

pub returns-clause-named : goal.returns-clause-named
returns-clause-named c =
    site_over c.args.name.now c.args.policy.now c.as_slice.result.now c.as_slice.ensures c.site_in.result c.site_in.ensures.named

pub returns-clause-none : goal.returns-clause-none
returns-clause-none c =
    lacks_over c.args.name.now c.args.policy.now c.as_slice.result.now c.as_slice.ensures c.site_in.result c.site_in.ensures.none
