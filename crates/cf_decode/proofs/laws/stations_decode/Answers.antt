use Rattle.cf_decode.proofs.Stations.{stations_decode}
use Rattle.cf_decode.proofs.laws.stations_decode.Goals as goal

pub returns : goal.returns
returns c = stations_decode c.pieces_join.ensures.free c.first_segments_make_the_first_fragments.ensures
