use Rattle.std.proofs.Common.{◌∙◌, sym}
use Rattle.std.specs.Prelude.{nat_lt}
use Rattle.cf_leg.proofs.Broken.{on_err}
use Rattle.std.proofs.lemmas.Bool.{not-false, not-true}
use Rattle.cf_leg.proofs.Clocked.{quiet_of, spent_of, again_of, clock_breaks}
use Rattle.cf_leg.proofs.leg.Leg.on_clock.Goals as goal

pub returns-then-not-is_due-clause-clocked : goal.returns-then-not-is_due-clause-clocked
returns-then-not-is_due-clause-clocked g c = quiet_of c.args.self.now c.args.queue.now c.args.moment _ (sym c.is_due.ensures ∙ c.if-not-is_due.true)

pub returns-then-is_spent-clause-clocked : goal.returns-then-is_spent-clause-clocked
returns-then-is_spent-clause-clocked g c =
    spent_of c.args.self.now c.args.queue.now c.args.moment _ (sym c.is_due.ensures ∙ c.if-not-is_due.false)
    (not-true (nat_lt c.args.self.now.fired 6) (sym c.is_spent.ensures ∙ c.if-is_spent.true))

pub returns-clause-clocked : goal.returns-clause-clocked
returns-clause-clocked g c =
    again_of c.args.self.now c.fire.new.self c.args.queue.now c.args.moment c.in_ok-answer.answer (g.D.Desk.value c.args.desk.now) (g.D.Desk.value c.send_again.new.desk) c.acked_of-acked.ensures.bounds
    (sym c.is_due.ensures ∙ c.if-not-is_due.false) (not-false (nat_lt c.args.self.now.fired 6) (sym c.is_spent.ensures ∙ c.if-is_spent.false)) c.in_ok-answer.ensures.sends.0 c.in_ok-answer.ensures.sends.1 c.fire.ensures.new

pub returns-in_err-answer-clause-broken : goal.returns-in_err-answer-clause-broken
returns-in_err-answer-clause-broken g c =
    on_err _ (clock_breaks c.args.self.now c.args.queue.now c.args.moment (g.D.Desk.value c.args.desk.now) (g.D.Desk.value c.send_again.new.desk) c.acked_of-acked.ensures.bounds
    (sym c.is_due.ensures ∙ c.if-not-is_due.false) (not-false (nat_lt c.args.self.now.fired 6) (sym c.is_spent.ensures ∙ c.if-is_spent.false)) c.in_err-answer.ensures.broken)
