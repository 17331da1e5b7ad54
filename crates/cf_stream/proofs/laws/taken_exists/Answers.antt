use Rattle.cf_stream.proofs.Taken.{some_taken}
use Rattle.cf_stream.proofs.laws.taken_exists.Goals as goal

pub returns : goal.returns
returns c = some_taken
