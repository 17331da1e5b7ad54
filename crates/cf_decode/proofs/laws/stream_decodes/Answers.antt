use Rattle.cf_decode.proofs.Making.{stream_decodes}
use Rattle.cf_decode.proofs.Spelled.{stream_is_spelled}
use Rattle.cf_decode.proofs.laws.stream_decodes.Goals as goal

pub returns-clause-spelled : goal.returns-clause-spelled
returns-clause-spelled c = stream_is_spelled

pub returns-clause-decodes : goal.returns-clause-decodes
returns-clause-decodes c = stream_decodes c.pieces_join.ensures.free
