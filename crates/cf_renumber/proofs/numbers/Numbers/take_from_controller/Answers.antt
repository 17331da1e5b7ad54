use Rattle.std.proofs.Common.{◌≡◌, ◌-◌, ◌∷◌, ◌∙◌, ap, length, refl, None, List}
use Rattle.cf_renumber.specs.Counts.{NumberEvent, ControllerAck, acked_by_client, from_controller, to_client, outstanding_refusal}
use Rattle.cf_renumber.specs.Numbers.{NumbersValue, IsNumbersOf}
use Rattle.cf_renumber.proofs.Counting.{stands_controller_ack, stamp_client, stands_carried, origins_left, not_full}
use Rattle.cf_renumber.proofs.numbers.Numbers.take_from_controller.Goals as goal

acked : (c : goal.After-take_carried) (events : List NumberEvent) → IsNumbersOf c.args.self.now events →
    IsNumbersOf c.forget_from_client.new.self (ControllerAck c.args.nr ∷ events)
acked c events s =
    let a = c.in_ok-anew.ensures.answer events (acked_by_client events) s.holds in
    rw c.forget_from_client.ensures (stands_controller_ack c.args.self.now events c.args.nr c.in_ok-anew.anew s c.in_ok-anew.ensures.within a.1)

pub returns-clause-answer : goal.returns-clause-answer
returns-clause-answer c = λ events s. (
    let a = c.in_ok-anew.ensures.answer events (acked_by_client events) s.holds in
    let carried = rw (← c.self.view_is) at s.holds.carried in
    let send = c.in_ok-check_send.ensures (from_controller events) carried in
    let left : c.unacked_by_client.result ≡ to_client events - acked_by_client events = c.unacked_by_client.ensures.value
    ∙ ap (λ (v : NumbersValue). length v.origins) c.forget_from_client.ensures
    ∙ origins_left c.args.self.now events (acked_by_client events) s.holds in
    let room : outstanding_refusal (to_client events - acked_by_client events) ≡ None =
    rw (← left) (not_full c.unacked_by_client.result c.if-unacked_by_client-eq-CAPACITY.false) in
    let st = acked c events s in
    (rw (send, a.0, room) refl, c.stamp_for_client-stamp.ensures.value ∙ stamp_client _ _ _ st.holds c.stamp_for_client-stamp.ensures.few))

pub returns-clause-stands : goal.returns-clause-stands
returns-clause-stands c = λ events s. rw c.take_carried.ensures (stands_carried _ events c.args.nr (acked c events s))
