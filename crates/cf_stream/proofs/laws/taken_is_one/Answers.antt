use Rattle.cf_stream.proofs.Taken.{same_taken}
use Rattle.cf_stream.proofs.laws.taken_is_one.Goals as goal

pub returns : goal.returns
returns c = same_taken
