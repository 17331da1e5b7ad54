use Rattle.cf_dnptrans.proofs.Passing.{put_together}
use Rattle.cf_dnptrans.proofs.laws.first_segments_make_the_first_fragments.Goals as goal

pub returns : goal.returns
returns c = put_together
