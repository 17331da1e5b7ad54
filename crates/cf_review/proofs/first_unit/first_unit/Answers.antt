use Rattle.std.proofs.Common.{◌≡◌, ◌∙◌, drop, refl, sym, subst, inl, inr, arith}
use Rattle.std.proofs.lemmas.Bool.{cases_lt}
use Rattle.std.proofs.lemmas.List.{take_rest}
use Rattle.cf_review.specs.FirstUnit.{UnitBegins}
use Rattle.cf_review.proofs.FirstUnits.{no_unit}
use Rattle.cf_review.proofs.first_unit.first_unit.Goals as goal

pub loop-place-preserved : goal.loop-place-preserved
loop-place-preserved c k below is =
    let place = c.loop-place.place in
    elim (cases_lt k place) [
      | inl before ↦ c.loop-place.invariant k before is
      | inr here ↦
          (let at : k ≡ place = omega (arith, below, here) in
          let lent : c.one.result.bytes ≡ drop place c.args.bytes.now = c.one.ensures.bytes ∙ take_rest c.args.bytes.now place in
          c.unit_begins.ensures.none c.if-unit_begins.false
          (subst (UnitBegins c.args.protocol.now) (sym lent) (subst (λ n. UnitBegins c.args.protocol.now (drop n c.args.bytes.now)) at is)))
    ]

pub returns-clause-place : goal.returns-clause-place
returns-clause-place c = inr (refl, no_unit c.args.protocol.now c.args.bytes.now (λ k inside. c.loop-place.invariant k (omega (arith, inside, c.loop-place-test.false))))
