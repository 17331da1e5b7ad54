use Rattle.cf_session.proofs.Quiet.{quiet_before}
use Rattle.cf_session.proofs.laws.sessions_are_quiet_before_due.Goals as goal

pub returns : goal.returns
returns c = quiet_before c.clocks_are_quiet_before_due.ensures
