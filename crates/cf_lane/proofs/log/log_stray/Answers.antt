use Rattle.cf_lane.proofs.Logging.{logs_by}
use Rattle.cf_lane.proofs.log.log_stray.Goals as goal

pub returns-clause-desk : goal.returns-clause-desk
returns-clause-desk g c = logs_by _ _ _ c.put_line.ensures.whole c.put_line.ensures.log c.put_line.ensures.cause
