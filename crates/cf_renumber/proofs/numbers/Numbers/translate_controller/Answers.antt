use Rattle.std.proofs.Common.{◌∷◌, ◌∙◌, ap}
use Rattle.cf_renumber.specs.declared.answer.Stamp.{Stamp}
use Rattle.cf_renumber.specs.Counts.{ControllerAck, acked_by_client}
use Rattle.cf_renumber.specs.Numbers.{IsNumbersOf}
use Rattle.cf_renumber.proofs.Counting.{stands_controller_ack, stamp_client}
use Rattle.cf_renumber.proofs.numbers.Numbers.translate_controller.Goals as goal
use Rattle.std.proofs.lemmas.Grind.{common_steps}
use Rattle.std.proofs.Common.{arith}

pub returns-clause-answer : goal.returns-clause-answer
returns-clause-answer c = λ events s. (
    let a = c.in_ok-anew.ensures.answer events (acked_by_client events) s.holds in
    let st : IsNumbersOf c.forget_from_client.new.self (ControllerAck c.args.nr ∷ events) =
    rw c.forget_from_client.ensures (stands_controller_ack c.args.self.now events c.args.nr c.in_ok-anew.anew s c.in_ok-anew.ensures.within a.1) in
    (a.0, ap (λ (x : Stamp). x.receive) (c.stamp_for_client.ensures.value ∙ stamp_client _ _ _ st.holds c.stamp_for_client.ensures.few)))

pub returns-clause-stands : goal.returns-clause-stands
returns-clause-stands c = grind (arith, common_steps, stands_controller_ack)
