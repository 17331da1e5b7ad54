use Rattle.cf_lane.proofs.Logging.{logs_by, logs_none}
use Rattle.cf_lane.proofs.log.log_end.Goals as goal

pub returns-clause-desk : goal.returns-clause-desk
returns-clause-desk g c = logs_by _ _ _ c.put_line.ensures.whole c.put_line.ensures.log c.put_line.ensures.cause

pub returns-then-not-unfinished-clause-desk : goal.returns-then-not-unfinished-clause-desk
returns-then-not-unfinished-clause-desk g c = logs_none _ c.requires.whole
