use Rattle.cf_rebuild.proofs.Runs.{stands_run, edge_run, consumed_run, base_run, pending_run, ended_run}
use Rattle.cf_rebuild.proofs.laws.every_window_run.Goals as goal

pub returns : goal.returns
returns c = record { stands = stands_run; edge = edge_run; consumed = consumed_run; base = base_run; pending = pending_run; ended = ended_run }
