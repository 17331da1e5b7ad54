use Rattle.std.proofs.Common.{sym}
use Rattle.cf_policy.proofs.FromPlaces.{from_inside, from_within, is_never}
use Rattle.cf_policy.proofs.site.site_at_place.Goals as goal

pub returns-in-Some-clause-site : goal.returns-in-Some-clause-site
returns-in-Some-clause-site c = sym c.in-Some.ensures.site

pub returns-in-Some-clause-within : goal.returns-in-Some-clause-within
returns-in-Some-clause-within c = from_within c.args.assets.now c.args.place c.in-Some.site (sym c.in-Some.ensures.site)

pub returns-in-Some-clause-inside : goal.returns-in-Some-clause-inside
returns-in-Some-clause-inside c = from_inside c.args.assets.now c.args.place c.in-Some.site (sym c.in-Some.ensures.site)

pub returns-in-None-clause-site : goal.returns-in-None-clause-site
returns-in-None-clause-site c = absurd (is_never c.args.assets.now c.args.place c.requires (sym c.in-None.ensures.site))

pub returns-in-None-clause-within : goal.returns-in-None-clause-within
returns-in-None-clause-within c = absurd (is_never c.args.assets.now c.args.place c.requires (sym c.in-None.ensures.site))

pub returns-in-None-clause-inside : goal.returns-in-None-clause-inside
returns-in-None-clause-inside c = absurd (is_never c.args.assets.now c.args.place c.requires (sym c.in-None.ensures.site))
