use Rattle.cf_outq.proofs.Runs.{stands_run, sent_run, repeats_run, stops_run}
use Rattle.cf_outq.proofs.laws.every_queue_run.Goals as goal

pub returns : goal.returns
returns c = record { stands = stands_run; once = sent_run; stops = stops_run; repeats = repeats_run }
