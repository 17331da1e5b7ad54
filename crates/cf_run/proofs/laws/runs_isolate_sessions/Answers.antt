use Rattle.cf_run.proofs.Isolating.{isolates}
use Rattle.cf_run.proofs.laws.runs_isolate_sessions.Goals as goal

pub returns : goal.returns
returns c = isolates c.events_are_fixed.ensures
