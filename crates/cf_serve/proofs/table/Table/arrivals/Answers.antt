use Rattle.std.proofs.Common.{arith, refl, ◌∙◌}
use Rattle.cf_serve.proofs.Arriving.{arrive_first, arrive_missed, arrive_then}
use Rattle.cf_serve.proofs.Logging.{writes_both, writes_none}
use Rattle.cf_serve.proofs.Stepping.{on_err}
use Rattle.cf_serve.proofs.table.Table.arrivals.Goals as goal

pub loop-place-init : goal.loop-place-init
loop-place-init g c = record {
  free = c.requires.free;
  table = λ most t. t;
  does = λ most. arrive_first _ most _ _ _ _ _;
  calm = λ h. h;
  keeping = refl;
  minutes = refl;
  round = refl;
  room = omega arith;
  whole = c.requires.whole;
  log = writes_none _;
  later = omega arith;
}

pub loop-place-preserved : goal.loop-place-preserved
loop-place-preserved g c =
    let i = c.loop-place.invariant in
    record {
      free = c.arrive.ensures.free;
      table = λ most t. c.arrive.ensures.table most (i.table most t);
      does = λ most. arrive_then _ most _ _ _ _ _ _ _ _ _ _ _ _ _ _ (i.does most) (c.in_ok-arrive.ensures.does most);
      calm = λ h. c.arrive.ensures.calm (i.calm h);
      keeping = c.arrive.ensures.keeping ∙ i.keeping;
      minutes = c.arrive.ensures.minutes ∙ i.minutes;
      round = c.arrive.ensures.round ∙ i.round;
      room = omega (arith, i.room, c.arrive.ensures.room);
      whole = c.in_ok-arrive.ensures.whole;
      log = writes_both _ _ _ i.log c.arrive.ensures.log;
      later = omega (arith, i.later, c.arrive.ensures.cause.later);
    }

pub returns-in_err-arrive-clause-table : goal.returns-in_err-arrive-clause-table
returns-in_err-arrive-clause-table g c = λ most t. c.arrive.ensures.table most (c.loop-place.invariant.table most t)

pub returns-in_err-arrive-clause-breaks : goal.returns-in_err-arrive-clause-breaks
returns-in_err-arrive-clause-breaks g c =
    let i = c.loop-place.invariant in
    on_err c.from_residual.result _ (λ most.
    arrive_missed _ most _ _ _ _ _ _ _ _ _ _ _ _ _ _ _ (i.does most) (c.in_err-arrive.ensures.breaks most))

pub returns-in_err-arrive-clause-calm : goal.returns-in_err-arrive-clause-calm
returns-in_err-arrive-clause-calm g c = λ h. c.arrive.ensures.calm (c.loop-place.invariant.calm h)
