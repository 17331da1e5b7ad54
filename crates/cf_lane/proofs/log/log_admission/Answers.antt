use Rattle.cf_lane.proofs.Logging.{logs_none}
use Rattle.cf_lane.proofs.log.log_admission.Goals as goal

pub returns-in-None-clause-desk : goal.returns-in-None-clause-desk
returns-in-None-clause-desk g c = logs_none _ c.requires.whole
