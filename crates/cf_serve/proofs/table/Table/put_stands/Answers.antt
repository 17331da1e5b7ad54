use Rattle.std.proofs.Common.{arith, subst, ◌∷◌, ◌≡◌, []}
use Rattle.cf_lane.specs.Handled.{MayHaveMore}
use Rattle.cf_lane.specs.Log.{with_lines}
use Rattle.cf_serve.proofs.Logging.{writes_both, writes_none}
use Rattle.cf_serve.proofs.Saying.{said_as, says_all, says_first, says_missed, says_then}
use Rattle.cf_serve.proofs.Stepping.{on_err}
use Rattle.cf_serve.proofs.table.Table.put_stands.Goals as goal

pub loop-number-init : goal.loop-number-init
loop-number-init g c = record { does = says_first _ _ _ _ _; whole = c.requires.whole; log = writes_none _; later = omega arith }

pub loop-number-preserved : goal.loop-number-preserved
loop-number-preserved g c =
    let i = c.loop-number.invariant in
    record {
      does = says_then _ _ _ _ c.loop-number.number _ _ i.does c.place_of-place.result.now c.place_of-place.ensures.is _
          (subst (λ l. (g.D.Desk.value c.log_line.new.desk).lines ≡ with_lines (g.D.Desk.value c.loop-number.desk).lines (l ∷ []))
          (said_as c.place_of-place.result.now _ _ _ _ c.args.moment c.count_at.ensures c.tally_at-tally.ensures) c.in_ok-log_line.ensures.lines);
      whole = c.in_ok-log_line.ensures.whole;
      log = writes_both _ _ _ i.log c.log_line.ensures.log;
      later = omega (arith, i.later, c.log_line.ensures.cause.later);
    }

pub returns-clause-lines : goal.returns-clause-lines
returns-clause-lines g c = says_all _ _ _ _ c.loop-number.number _ _ c.loop-number.invariant.does (omega (arith, c.loop-number-test.false, c.loop-number.auto.number-end))

pub returns-in_err-log_line-clause-breaks : goal.returns-in_err-log_line-clause-breaks
returns-in_err-log_line-clause-breaks g c =
    let i = c.loop-number.invariant in
    on_err c.from_residual.result _
    (says_missed _ _ _ _ c.loop-number.number _ _ i.does c.place_of-place.result.now c.place_of-place.ensures.is _ _
    (subst (λ l. MayHaveMore (l ∷ []) (g.D.Desk.value c.loop-number.desk).lines (g.D.Desk.value c.log_line.new.desk).lines (g.D.Desk.value c.log_line.new.desk).line_part)
    (said_as c.place_of-place.result.now _ _ _ _ c.args.moment c.count_at.ensures c.tally_at-tally.ensures) c.in_err-log_line.ensures.fails))
