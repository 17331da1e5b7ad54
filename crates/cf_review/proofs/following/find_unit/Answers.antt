use Rattle.std.proofs.Common.{◌≡◌, ◌∙◌, drop, subst, sym, arith}
use Rattle.std.proofs.lemmas.List.{take_rest}
use Rattle.cf_review.proofs.FirstUnits.{searched_more}
use Rattle.cf_review.specs.FirstUnit.{UnitBegins}
use Rattle.cf_review.proofs.following.find_unit.Goals as goal

pub places-preserved : goal.places-preserved
places-preserved c was =
    let bytes = c.args.bytes.now in
    let at = c.places.at in
    let lent : c.one.result.bytes ≡ drop at bytes = c.one.ensures.bytes ∙ take_rest bytes at in
    searched_more c.args.protocol.now bytes at (omega (arith, c.requires.long, c.places-test.true)) (c.places.invariant was)
    (λ is. c.unit_begins.ensures.none c.if-unit_begins.false (subst (UnitBegins c.args.protocol.now) (sym lent) is))
