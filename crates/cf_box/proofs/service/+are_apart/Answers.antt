use Rattle.std.proofs.Common.{◌∙◌}
use Rattle.cf_box.proofs.ServicePlaces.{apart_of_rest, not_apart}
use Rattle.cf_box.proofs.service.+are_apart.Goals as goal

pub returns-then-is_among : goal.returns-then-is_among
returns-then-is_among t c =
    not_apart c.args.places.now c.in-Some.rest.now c.in-Some.place.now c.in-Some.ensures.cases.0 c.if-is_among.ensures

pub returns : goal.returns
returns t c =
    c.are_apart.ensures ∙ apart_of_rest c.args.places.now c.in-Some.rest.now c.in-Some.place.now c.in-Some.ensures.cases.0
    c.if-is_among.ensures
