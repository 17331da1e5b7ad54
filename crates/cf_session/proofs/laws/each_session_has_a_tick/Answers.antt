use Rattle.cf_session.proofs.Over.{are_over, are_taken}
use Rattle.cf_session.proofs.TicksAmid.{has_tick}
use Rattle.cf_session.proofs.laws.each_session_has_a_tick.Goals as goal

pub returns : goal.returns
returns c = λ flow limit earlier event tick are none unexpired.
    has_tick flow earlier event tick (are_over flow limit earlier event are none) (are_taken flow limit earlier event are) unexpired
