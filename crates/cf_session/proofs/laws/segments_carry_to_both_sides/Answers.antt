use Rattle.cf_session.proofs.Fixed.{work_is_one}
use Rattle.cf_session.proofs.Short.{carries_one}
use Rattle.cf_session.proofs.laws.segments_carry_to_both_sides.Goals as goal

pub returns : goal.returns
returns c = carries_one c.segments_carry_one_stream.ensures.one c.streams_go_on.ensures.go_on c.streams_go_on.ensures.quiet (work_is_one c.has_one_judgement.ensures)
