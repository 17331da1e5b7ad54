use Rattle.std.proofs.Common.{arith, sym, ◌∙◌}
use Rattle.cf_serve.proofs.Logging.{writes_both}
use Rattle.cf_serve.proofs.Rounding.{may_leave}
use Rattle.cf_serve.proofs.Serving.{rounds_fail, rounds_then}
use Rattle.cf_serve.proofs.table.Table.rounds.Goals as goal

pub loop-made-preserved : goal.loop-made-preserved
loop-made-preserved g c =
    let i = c.loop-made.invariant in
    record {
      table = c.in-Ok.ensures.table;
      does = λ past keeps last is.
          rounds_then _ _ _ last past _ _ _ _ _ _ _ _ _ _ _ _ _ _ _ _ (i.does past keeps last is) c.in-Ok.ensures.does;
      calm = λ not. c.in-Ok.ensures.calm;
      round = c.round.ensures.loops.still (λ is. let e = sym c.in-Ok.is ∙ is in cc) ∙ i.round;
      room = omega (arith, i.room, c.round.ensures.room);
      whole = c.in-Ok.ensures.whole;
      log = writes_both _ _ _ i.log c.round.ensures.log;
      later = omega (arith, i.later, c.round.ensures.write.later);
    }

pub returns-clause-leave : goal.returns-clause-leave
returns-clause-leave g c =
    may_leave _ _ _ _ _ _ c.loop-made.invariant.table

pub returns-in-Err-clause-breaks : goal.returns-in-Err-clause-breaks
returns-in-Err-clause-breaks g c = λ is. (
  c.loop-made._made,
  (
    omega (arith, c.loop-made.auto),
    λ past keeps last its. rounds_fail _ _ _ last past _ _ _ _ _ _ _ _ _ _ _ _ _ _ (c.loop-made.invariant.does past keeps last its) (c.in-Err.ensures.breaks is),
  ),
)
