use Rattle.std.proofs.Common.{refl, subst, sym}
use Rattle.cf_watch.specs.FlowValue.{flow_value}
use Rattle.cf_review.specs.FirstUnit.{IsReadFrom, IsReadPartBy, from_place}
use Rattle.cf_review.proofs.first_unit.first_place.Goals as goal

pub returns-in-Some-clause-part : goal.returns-in-Some-clause-part
returns-in-Some-clause-part c =
    let p = c.args.protocol.now in
    let f = flow_value c.args.flow.now in
    let place = c.first_unit.result in
    subst (λ m. IsReadPartBy p m f (from_place place f)) (sym c.in-Some.is)
    (place, subst (λ xs. IsReadFrom p xs place) c.as_slice.ensures.value c.first_unit.ensures.place, refl)
