use Rattle.cf_stream.proofs.FirstCopy.{first_copy-append}
use Rattle.cf_stream.proofs.laws.first_copies_stay.Goals as goal

pub returns : goal.returns
returns c = first_copy-append
