use Rattle.cf_leg.proofs.Grows.{base_grows}
use Rattle.cf_leg.proofs.leg.counting.offer.Goals as goal

pub returns-clause-grows : goal.returns-clause-grows
returns-clause-grows c = base_grows c.args.window.now c.offer.new.self c.offer.ensures.grows c.offer.ensures.takes.consumed

pub returns-clause-window : goal.returns-clause-window
returns-clause-window c = record { unread = c.offer.ensures.grows; consumed = c.offer.ensures.takes.consumed; edge = c.offer.ensures.takes.edge }
