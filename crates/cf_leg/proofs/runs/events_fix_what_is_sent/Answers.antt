use Rattle.cf_leg.proofs.Asked.{same_events}
use Rattle.cf_leg.proofs.runs.events_fix_what_is_sent.Goals as goal

pub returns : goal.returns
returns c = same_events
