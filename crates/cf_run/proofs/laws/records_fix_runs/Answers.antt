use Rattle.cf_run.proofs.Fixed.{events_fixed, runs_fixed}
use Rattle.cf_run.proofs.laws.records_fix_runs.Goals as goal

pub returns : goal.returns
returns c = record { events = events_fixed c.events_are_fixed.ensures; runs = runs_fixed c.events_are_fixed.ensures }
