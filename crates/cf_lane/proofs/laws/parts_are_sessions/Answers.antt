use Rattle.cf_lane.proofs.Sites.{parts_asdus, parts_fates, parts_outputs}
use Rattle.cf_lane.proofs.laws.parts_are_sessions.Goals as goal

pub returns-clause-fates : goal.returns-clause-fates
returns-clause-fates c = parts_fates

pub returns-clause-outputs : goal.returns-clause-outputs
returns-clause-outputs c = parts_outputs

pub returns-clause-asdus : goal.returns-clause-asdus
returns-clause-asdus c = parts_asdus
