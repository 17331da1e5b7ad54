use Rattle.cf_leg.proofs.Broken.{on_err}
use Rattle.cf_leg.proofs.Spoken.{speaking_breaks, spoken_of}
use Rattle.cf_leg.proofs.Numbers.{widens_of, sent_alone}
use Rattle.cf_leg.proofs.leg.Leg.speak.Goals as goal

pub returns-clause-spoken : goal.returns-clause-spoken
returns-clause-spoken g c =
    spoken_of c.args.self.now c.address.new.self c.rearm.new.self c.args.queue.now c.address.new.queue c.args.roomy c.args.moment _ _
    c.in_ok-address.ensures.bounds c.in_ok-address.ensures.window c.in_ok-address.ensures.addressed c.rearm.ensures.new

pub returns-clause-window : goal.returns-clause-window
returns-clause-window g c = widens_of c.args.roomy c.args.moment c.args.self.now c.address.new.self c.rearm.new.self c.args.queue.now c.address.new.queue _ _ c.in_ok-address.ensures.window c.in_ok-address.ensures.addressed c.rearm.ensures.new

pub returns-clause-queue : goal.returns-clause-queue
returns-clause-queue g c = sent_alone c.args.roomy c.args.moment c.args.self.now c.address.new.self c.args.queue.now c.address.new.queue _ _ c.in_ok-address.ensures.addressed

pub returns-in_err-address-clause-broken : goal.returns-in_err-address-clause-broken
returns-in_err-address-clause-broken g c =
    on_err _ (speaking_breaks c.args.self.now c.args.queue.now c.args.roomy c.args.moment (g.D.Desk.value c.args.desk.now) (g.D.Desk.value c.address.new.desk)
    c.in_err-address.ensures.bounds c.in_err-address.ensures.window c.in_err-address.ensures.broken)
