use Rattle.std.proofs.Common.{ap, refl, sym, ◌∙◌}
use Rattle.cf_serve.proofs.Seats.{ends_over, leaves_now, missed, missed_over, rests, stays_on}
use Rattle.cf_serve.proofs.Stepping.{on_err}
use Rattle.cf_serve.specs.Phase.{phase_of}
use Rattle.cf_serve.proofs.table.turn_one.Goals as goal

pub returns-in_err-end_again-clause-breaks : goal.returns-in_err-end_again-clause-breaks
returns-in_err-end_again-clause-breaks g c = on_err c.from_residual.result _ (λ before es own stands.
    rw c.if-again.true (missed_over _ before before _ _ es own _ _ (phase_of c.args.served.now) _ _ stands c.requires.may _ c.in_err-end_again.ensures.fails refl))

pub returns-then-again-clause-does : goal.returns-then-again-clause-does
returns-then-again-clause-does g c = λ before found es own begins stands.
    rw c.if-again.true (ends_over _ before found _ _ es own _ _ (phase_of c.args.served.now) _ _ stands c.requires.may c.leave.ensures.entry c.in_ok-end_again.ensures.lines)

pub returns-then-must_rest-clause-does : goal.returns-then-must_rest-clause-does
returns-then-must_rest-clause-does g c = λ before found es own begins stands.
    rw c.if-again.false (rests _ before found _ _ es own _ _ (phase_of c.args.served.now) _ stands c.rest.ensures.told)

pub returns-then-not-is_ready-clause-does : goal.returns-then-not-is_ready-clause-does
returns-then-not-is_ready-clause-does g c = λ before found es own begins stands.
    rw c.if-again.false (rests _ before found _ _ es own _ _ (phase_of c.args.served.now) _ stands c.if-not-is_ready.ensures.entry)

pub returns-in-None-clause-does : goal.returns-in-None-clause-does
returns-in-None-clause-does g c = λ before found es own begins stands.
    rw c.if-again.false (stays_on _ before found _ _ es own _ _ (phase_of c.args.served.now).seat _ _ _ _ _ c.if-not-is_ready.ensures.entry stands (sym c.must_rest.ensures ∙ c.if-must_rest.false)
    _ begins c.args.terms.now.site.now c.args.terms.now.place c.args.keeping.now _ _ c.in_ok-turn.ensures.keeps.begins (ap phase_of c.turn.ensures.same) c.in-None.is c.in_ok-turn.ensures.owes c.in_ok-turn.ensures.does)

pub returns-in-Some-clause-does : goal.returns-in-Some-clause-does
returns-in-Some-clause-does g c = λ before found es own begins stands.
    rw c.if-again.false (leaves_now _ before found _ _ es own _ _ (phase_of c.args.served.now).seat _ _ _ _ _ c.if-not-is_ready.ensures.entry stands (sym c.must_rest.ensures ∙ c.if-must_rest.false)
    _ begins c.args.terms.now.site.now c.args.terms.now.place c.args.keeping.now _ _ _ _ c.in_ok-turn.ensures.keeps.begins (ap phase_of c.turn.ensures.same) c.in-Some.is c.leave-in-Some.ensures.entry c.in_ok-turn.ensures.again c.in_ok-turn.ensures.does)

pub returns-in_err-turn-clause-breaks : goal.returns-in_err-turn-clause-breaks
returns-in_err-turn-clause-breaks g c = on_err c.from_residual-in_err-turn.result _ (λ before es own stands.
    rw c.if-again.false (missed _ before before _ _ es own _ _ (phase_of c.args.served.now).seat _ (phase_of c.turn.new.self).linked _ _ _ c.if-not-is_ready.ensures.entry stands
    (sym c.must_rest.ensures ∙ c.if-must_rest.false) _ c.in_err-turn.ensures.breaks))
