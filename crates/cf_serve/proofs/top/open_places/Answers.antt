use Rattle.std.proofs.Common.{arith, refl, ◌∙◌}
use Rattle.cf_serve.proofs.Logging.{writes_both, writes_none}
use Rattle.cf_serve.proofs.Opening.{opens_missed, opens_more, opens_none}
use Rattle.cf_serve.proofs.top.open_places.Goals as goal

pub loop-number-init : goal.loop-number-init
loop-number-init g c = record {
  served = refl;
  round = refl;
  does = opens_none _ _ _;
  whole = c.requires.whole;
  log = writes_none _;
  later = omega arith;
}

pub loop-number-preserved : goal.loop-number-preserved
loop-number-preserved g c =
    let i = c.loop-number.invariant in
    record {
      served = c.listen.ensures.place.serves ∙ i.served;
      round = c.in-Told.ensures.place.round.still (λ is. cc) ∙ i.round;
      does = opens_more _ _ _ _ _ _ _ _ c.in-Told.moment c.place_of-place.result.now c.place_of-place.ensures.is i.does c.in-Told.ensures.entry c.in-Ok.ensures.lines;
      whole = c.in-Ok.ensures.whole;
      log = writes_both _ _ _ i.log c.log_line.ensures.log;
      later = omega (arith, i.later, c.log_line.ensures.cause.later);
    }

pub returns-in-Err-clause-breaks : goal.returns-in-Err-clause-breaks
returns-in-Err-clause-breaks g c = λ is most.
    opens_missed _ most _ _ _ _ _ _ _ _ c.in-Told.moment c.place_of-place.result.now c.place_of-place.ensures.is c.loop-number.invariant.does c.in-Told.ensures.entry c.in-Err.ensures.fails
