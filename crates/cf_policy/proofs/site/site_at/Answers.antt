use Rattle.std.proofs.Common.{◌∙◌, ap, sym}
use Rattle.std.specs.Prelude.{option_and_then}
use Rattle.cf_policy.specs.Site.{site_from}
use Rattle.cf_policy.proofs.SiteLaws.{within_by}
use Rattle.cf_policy.proofs.site.site_at.Goals as goal

pub returns-in-Some-clause-within : goal.returns-in-Some-clause-within
returns-in-Some-clause-within c =
    within_by c.args.assets.now c.args.endpoint.now c.site_from.result
    (c.site_from.ensures.site ∙ ap (option_and_then (site_from c.args.assets.now)) (sym c.in-Some.is ∙ c.place_at.ensures))
