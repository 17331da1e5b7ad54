use Rattle.std.proofs.Common.{◌≡◌, ℕ, ◌∷◌, ◌∙◌, ap, Option, Some, false}
use Rattle.cf_renumber.specs.declared.answer.RefusedStamp.{RefusedStamp}
use Rattle.cf_renumber.specs.declared.answer.Stamp.{Stamp}
use Rattle.cf_renumber.specs.Counts.{Refused, owed_ack, mirror_stamp}
use Rattle.cf_renumber.specs.Numbers.{IsNumbersOf}
use Rattle.cf_renumber.proofs.Runs.{did_refuse}
use Rattle.cf_renumber.proofs.Counting.{stands_refused, stands_mirrored, stamp_client, ack_is}
use Rattle.cf_renumber.proofs.numbers.Numbers.refused.Goals as goal
use Rattle.std.proofs.lemmas.Grind.{common_steps}
use Rattle.std.proofs.Common.{arith}

pub returns-then-not-reply-clause-stamp : goal.returns-then-not-reply-clause-stamp
returns-then-not-reply-clause-stamp c = grind (arith, common_steps, ack_is)

pub returns-then-not-reply-clause-stands : goal.returns-then-not-reply-clause-stands
returns-then-not-reply-clause-stands c =
    λ events nr w. rw (c.if-not-reply.true, c.take_refused.ensures.value) (stands_refused c.args.self.now events nr w)

pub returns-clause-stamp : goal.returns-clause-stamp
returns-clause-stamp c = λ events nr w. (
    let ack : c.owed_ack-ack.result ≡ owed_ack events nr = c.owed_ack-ack.ensures.value
    ∙ ack_is c.args.self.now events nr c.owed_ack-ack.ensures.few w in
    let st : IsNumbersOf c.take_refused.new.self (Refused nr false ∷ events) =
    rw c.take_refused.ensures.value (stands_refused c.args.self.now events nr w) in
    let stamp : c.stamp_for_client-stamp.result ≡ mirror_stamp events = c.stamp_for_client-stamp.ensures.value
    ∙ stamp_client _ _ _ st.holds c.stamp_for_client-stamp.ensures.few in
    let made : Stamp → Option ℕ → RefusedStamp = λ s a. record { reply = Some s; ack = a } in
    rw c.if-not-reply.false (ap (λ (s : Stamp). made s c.owed_ack-ack.result) stamp ∙ ap (made (mirror_stamp events)) ack))

pub returns-clause-stands : goal.returns-clause-stands
returns-clause-stands c = λ events nr w. rw (c.if-not-reply.false, c.take_mirror.ensures, c.take_refused.ensures.value) (stands_mirrored c.args.self.now events nr w)

pub returns-then-not-reply-clause-did : goal.returns-then-not-reply-clause-did
returns-then-not-reply-clause-did c = did_refuse _ _ _ _ (returns-then-not-reply-clause-stamp c) (returns-then-not-reply-clause-stands c)

pub returns-clause-did : goal.returns-clause-did
returns-clause-did c = did_refuse _ _ _ _ (returns-clause-stamp c) (returns-clause-stands c)
