use Rattle.cf_decode.proofs.Making.{fragments_decode}
use Rattle.cf_decode.proofs.laws.fragments_decode.Goals as goal

pub returns : goal.returns
returns c = fragments_decode c.pieces_join.ensures.free c.first_segments_make_the_first_fragments.ensures
