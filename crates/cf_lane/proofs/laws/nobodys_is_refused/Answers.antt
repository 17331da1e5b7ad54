use Rattle.cf_lane.proofs.Sites.{nobodys_adu, nobodys_asdu, nobodys_frame}
use Rattle.cf_lane.proofs.laws.nobodys_is_refused.Goals as goal

pub returns-clause-adu : goal.returns-clause-adu
returns-clause-adu c = nobodys_adu

pub returns-clause-frame : goal.returns-clause-frame
returns-clause-frame c = nobodys_frame

pub returns-clause-asdu : goal.returns-clause-asdu
returns-clause-asdu c = nobodys_asdu
