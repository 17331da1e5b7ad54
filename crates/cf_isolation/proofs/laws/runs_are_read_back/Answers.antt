use Rattle.cf_isolation.proofs.Reading.{runs_back}
use Rattle.cf_isolation.proofs.laws.runs_are_read_back.Goals as goal

pub returns : goal.returns
returns c = runs_back c.sessions_are_right.ensures
