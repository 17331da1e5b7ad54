use Rattle.std.proofs.Common.{◌∙◌}
use Rattle.cf_box.proofs.Serving.{shares_here, shares_later}
use Rattle.cf_box.proofs.serve.+shares_site.Goals as goal

pub returns-then-has_same_site : goal.returns-then-has_same_site
returns-then-has_same_site t c =
    shares_here c.args.places.now c.in-Some.rest.now c.in-Some.place.now c.in-Some.ensures.cases.0 c.if-has_same_site.ensures

pub returns : goal.returns
returns t c =
    c.shares_site.ensures ∙ shares_later c.args.places.now c.in-Some.rest.now c.in-Some.place.now c.in-Some.ensures.cases.0
    c.if-has_same_site.ensures
