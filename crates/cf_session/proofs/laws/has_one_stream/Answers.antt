use Rattle.cf_session.proofs.Short.{carried_front}
use Rattle.cf_session.proofs.laws.has_one_stream.Goals as goal

pub returns : goal.returns
returns c = λ flow limit events taken small are uncut.
    let both = c.segments_carry_to_both_sides.ensures flow limit events small are uncut in
    (carried_front _ _ _ taken both.0, carried_front _ _ _ taken both.1)
