use Rattle.cf_leg.proofs.Streams.{repeat_is_old}
use Rattle.cf_leg.proofs.runs.repeats_carry_what_was_carried.Goals as goal

pub returns : goal.returns
returns c = repeat_is_old
