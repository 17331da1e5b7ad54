use Rattle.std.proofs.Common.{refl, subst, sym, ◌∙◌, ◌∷◌, ◌≡◌, []}
use Rattle.cf_lane.specs.Handled.{MayHaveMore}
use Rattle.cf_lane.specs.Log.{with_lines}
use Rattle.cf_serve.proofs.Leaving.{ending, lane_by, said, standing, unlogged}
use Rattle.cf_serve.proofs.Logging.{turn_writes, writes_both}
use Rattle.cf_serve.proofs.Missing.{last_missed, last_put}
use Rattle.cf_serve.proofs.Stepping.{on_err}
use Rattle.cf_serve.specs.Phase.{listening_of}
use Rattle.cf_serve.proofs.session.Linked.turn.Goals as goal

pub returns-in-None-clause-does : goal.returns-in-None-clause-does
returns-in-None-clause-does g c = λ left client.
    standing (listening_of c.args.terms.now) c.args.terms.now.most client c.args.self.now.met _ _ _ _ _ _ c.requires.may.0.few
    c.args.self.now.debt left _ c.turn-answer.result c.is_closed.result c.turn-answer.ensures.goes c.turn-answer.ensures.sound (sym c.in_ok-end.ensures.end ∙ c.in-None.is) c.in_ok-end.ensures.fine

pub returns-in_err-end-clause-breaks : goal.returns-in_err-end-clause-breaks
returns-in_err-end-clause-breaks g c = on_err c.from_residual.result _ (λ client.
    unlogged (listening_of c.args.terms.now) c.args.terms.now.most client c.args.self.now.met _ _ _ _ _ _ c.requires.may.0.few
    c.args.self.now.debt c.turn-answer.result c.turn-answer.ensures.stops c.in_err-end.ensures.write)

pub returns-in_err-log_line-clause-breaks : goal.returns-in_err-log_line-clause-breaks
returns-in_err-log_line-clause-breaks g c = on_err c.from_residual-in_err-log_line.result _ (λ client.
    last_missed (ending (listening_of c.args.terms.now) c.args.terms.now.most client c.args.self.now.met _ _ _ _ _ _ c.requires.may.0.few
    c.args.self.now.debt c.turn-answer.result c.is_closed.result c.in-Some.end c.turn-answer.ensures.goes
    c.turn-answer.ensures.sound c.turn-answer.ensures.stops c.is_closed.ensures (sym c.in_ok-end.ensures.end ∙ c.in-Some.is))
    (subst (λ l. MayHaveMore (l ∷ []) (g.D.Desk.value c.turn-answer.new.desk).lines (g.D.Desk.value c.log_line.new.desk).lines (g.D.Desk.value c.log_line.new.desk).line_part)
    (said c.args.terms.now.site.now c.args.self.now.met _ _ _ c.in-Some.end _ _ _ _ c.moment.ensures c.last_what-what.ensures c.admitted.ensures c.refused-2.ensures)
    c.in_err-log_line.ensures.fails) _ refl)

pub returns-in_err-log_line-clause-log : goal.returns-in_err-log_line-clause-log
returns-in_err-log_line-clause-log g c =
    writes_both _ _ _ (turn_writes _ _ _ _ _ _ _ _ c.turn-answer.result c.turn-answer.ensures.goes c.turn-answer.ensures.stops) c.in_err-log_line.ensures.log

pub returns-clause-does : goal.returns-clause-does
returns-clause-does g c = λ left client.
    last_put (ending (listening_of c.args.terms.now) c.args.terms.now.most client c.args.self.now.met _ _ _ _ _ _ c.requires.may.0.few
    c.args.self.now.debt c.turn-answer.result c.is_closed.result c.in-Some.end c.turn-answer.ensures.goes
    c.turn-answer.ensures.sound c.turn-answer.ensures.stops c.is_closed.ensures (sym c.in_ok-end.ensures.end ∙ c.in-Some.is)) left
    (subst (λ l. (g.D.Desk.value c.log_line.new.desk).lines ≡ with_lines (g.D.Desk.value c.turn-answer.new.desk).lines (l ∷ []))
    (said c.args.terms.now.site.now c.args.self.now.met _ _ _ c.in-Some.end _ _ _ _ c.moment.ensures c.last_what-what.ensures c.admitted.ensures c.refused-2.ensures)
    c.in_ok-log_line.ensures.lines)

pub returns-clause-log : goal.returns-clause-log
returns-clause-log g c =
    writes_both _ _ _ (turn_writes _ _ _ _ _ _ _ _ c.turn-answer.result c.turn-answer.ensures.goes c.turn-answer.ensures.stops) c.in_ok-log_line.ensures.log

pub returns-clause-lane : goal.returns-clause-lane
returns-clause-lane g c = lane_by c.args.terms.now.site.now c.args.terms.now.most c.args.self.now.met c.args.self.now.debt _ c.turn-answer.result c.in_ok-end.ensures.fine c.turn-answer.ensures.sound c.turn-answer.ensures.lane
