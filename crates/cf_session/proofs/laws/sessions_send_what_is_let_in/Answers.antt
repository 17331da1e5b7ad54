use Rattle.cf_view.specs.declared.Side.TheVariants as side
use Rattle.cf_session.proofs.Fixed.{work_is_one}
use Rattle.cf_session.proofs.Over.{reaches}
use Rattle.cf_session.proofs.laws.sessions_send_what_is_let_in.Goals as goal

pub returns : goal.returns
returns c = λ flow limit earlier event small are none.
    let one = work_is_one c.has_one_judgement.ensures in (
      reaches c.speeches_reach.ensures c.streams_go_on.ensures.go_on c.streams_go_on.ensures.quiet one flow limit earlier event side.Controller small are none,
      reaches c.speeches_reach.ensures c.streams_go_on.ensures.go_on c.streams_go_on.ensures.quiet one flow limit earlier event side.Client small are none,
    )
