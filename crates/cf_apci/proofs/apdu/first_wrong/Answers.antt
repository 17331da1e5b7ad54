use Rattle.std.proofs.Common.{sym, ◌∙◌, below_more, arith, inl, inr}
use Rattle.std.proofs.lemmas.Bool.{cases_lt}
use Rattle.cf_apci.proofs.Places.{follows_front, past}
use Rattle.cf_apci.proofs.apdu.first_wrong.Goals as goal

pub loop-place-preserved : goal.loop-place-preserved
loop-place-preserved c = below_more _ _ c.loop-place.invariant (follows_front c.args.bytes.now.bytes c.loop-place.place _ (omega arith)
    ∙ sym c.may_follow.ensures ∙ c.if-not-may_follow.false)

pub returns : goal.returns
returns c = λ p l.
    elim (cases_lt p 6) [
      | inl v ↦ c.loop-place.invariant p (omega arith)
      | inr v ↦ follows_front c.args.bytes.now.bytes p _ (omega arith) ∙ past c.args.bytes.now.bytes p _ (omega arith)
    ]
