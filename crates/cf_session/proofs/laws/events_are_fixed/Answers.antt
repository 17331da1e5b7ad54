use Rattle.cf_session.proofs.Fixed.{events_are_fixed, work_is_one}
use Rattle.cf_session.proofs.laws.events_are_fixed.Goals as goal

pub returns : goal.returns
returns c = events_are_fixed c.events_fix_what_is_sent.ensures (work_is_one c.has_one_judgement.ensures)
