use Rattle.std.proofs.Common.{◌+◌, ◌-◌, true, false, List, [], ◌∷◌, refl, sym, ap, ◌∙◌, subst}
use Rattle.cf_audit.specs.Line.{Begun}
use Rattle.cf_lane.specs.Log.{line_about}
use Rattle.cf_leg.specs.Emits.{syn}
use Rattle.cf_session.proofs.Beginning.{begins_of, first_said, moment_later, still_pending}
use Rattle.cf_session.proofs.Telling.{line_is, told_lines}
use Rattle.cf_session.specs.Session.{controller_ends}
use Rattle.cf_session.specs.Told.{told, with_both}
use Rattle.cf_session.specs.Turn.{IsMade}
use Rattle.cf_lane.specs.Handled.{MayHaveAdded}
use Rattle.cf_leg.specs.Calls.{Greeted, SpeakingBreaks}
use Rattle.cf_outside.proofs.Desks.{puts_both}
use Rattle.cf_session.proofs.Amid.{gets_sent, on_err}
use Rattle.cf_session.proofs.BeginningAmid.{greeted_syn, line_failed, speech_amid, speech_failed, syn_failed}
use Rattle.cf_session.proofs.session.Session.greet_controller.Goals as goal

pub returns-clause-begins : goal.returns-clause-begins
returns-clause-begins g c = λ f is number made.
    let m = subst (IsMade f) (sym c.self.view_is) made in
    let later = moment_later c.args.moment c.requires.moment.0 in
    let d0 = g.D.Desk.value c.args.desk.now in
    let d1 = g.D.Desk.value c.greet.new.desk in
    let d2 = g.D.Desk.value c.speak.new.desk in
    let first = first_said c.events_begin.ensures (controller_ends f) f.syn.seq (c.args.moment - 1) d0 d1 d2 later refl m.controller m.controller_list
    (subst (λ n. Greeted c.args.moment n c.self.inside.controller c.greet.new.self d0 d1 false) (sym number) c.in_ok-greet.ensures.greeted) c.in_ok-speak.ensures.spoken c.in_ok-greet.ensures.ends c.in_ok-speak.ensures.ends c.greet.ensures.frame.lines c.speak.ensures.frame.lines in
    let text = line_is f Begun is m.source later in
    let put = told_lines d2 (g.D.Desk.value c.log_line.new.desk) (line_about c.args.site.now.first c.self.inside.source c.args.moment Begun ∷ []) c.log_line.ensures.frame.packets c.in_ok-log_line.ensures.lines
    ∙ ap (λ (l : List _). with_both (told d2) [] (l ∷ [])) text in
    begins_of c.events_begin.ensures f (c.args.moment - 1) _ m _ _ _ _ _ first.stands (still_pending c.self.inside.controller.ends.role c.self.inside.controller.window c.greet.new.self.window c.speak.new.self.window c.in_ok-greet.ensures.window c.in_ok-speak.ensures.window) (c.speak.ensures.stands _ m.controller_list) first.told put

pub returns-in_err-greet-clause-broken : goal.returns-in_err-greet-clause-broken
returns-in_err-greet-clause-broken g c =
    on_err c.from_residual.result (λ f is number made.
    let now = c.args.moment in
    let tick = now - 1 in
    let m = subst (IsMade f) (sym c.self.view_is) made in
    let later = moment_later now c.requires.moment.0 in
    let d0 = g.D.Desk.value c.args.desk.now in
    let d1 = g.D.Desk.value c.greet.new.desk in
    let h = subst (λ n. Greeted n f.syn.seq c.self.inside.controller c.greet.new.self d0 d1 true) later (subst (λ n. Greeted now n c.self.inside.controller c.greet.new.self d0 d1 true) (sym number) c.in_err-greet.ensures.greeted) in
    syn_failed f tick d0 d0 d1 (greeted_syn c.events_begin.ensures (controller_ends f) f.syn.seq tick c.self.inside.controller c.greet.new.self c.self.inside.to_controller d0 d1 refl m.controller c.greet.ensures.ends h) c.greet.ensures.frame)

pub returns-in_err-speak-clause-broken : goal.returns-in_err-speak-clause-broken
returns-in_err-speak-clause-broken g c =
    on_err c.from_residual-in_err-speak.result (λ f is number made.
    let now = c.args.moment in
    let tick = now - 1 in
    let m = subst (IsMade f) (sym c.self.view_is) made in
    let later = moment_later now c.requires.moment.0 in
    let begin = c.events_begin.ensures in
    let d0 = g.D.Desk.value c.args.desk.now in
    let d1 = g.D.Desk.value c.greet.new.desk in
    let d2 = g.D.Desk.value c.speak.new.desk in
    let greeted = subst (λ n. Greeted n f.syn.seq c.self.inside.controller c.greet.new.self d0 d1 false) later (subst (λ n. Greeted now n c.self.inside.controller c.greet.new.self d0 d1 false) (sym number) c.in_ok-greet.ensures.greeted) in
    let sent = gets_sent false (tick + 1) (syn (controller_ends f) f.syn.seq ∷ []) d0 d1
    (greeted_syn begin (controller_ends f) f.syn.seq tick c.self.inside.controller c.greet.new.self c.self.inside.to_controller d0 d1 refl m.controller c.greet.ensures.ends greeted) c.in_ok-greet.ensures.frame in
    let h = subst (λ n. SpeakingBreaks true n c.greet.new.self c.self.inside.to_controller d1 d2) later c.in_err-speak.ensures.broken in
    speech_failed f tick d0 d1 d2 sent c.in_ok-greet.ensures.frame.rest
    (speech_amid begin (controller_ends f) tick f.syn.seq c.self.inside.controller c.greet.new.self c.self.inside.to_controller d0 d1 d2 m.controller m.controller_list greeted h) c.speak.ensures.frame
    (record { lines = c.speak.ensures.frame.lines ∙ c.greet.ensures.frame.lines; line_part = c.speak.ensures.frame.line_part ∙ c.greet.ensures.frame.line_part }))

pub returns-in_err-log_line-clause-broken : goal.returns-in_err-log_line-clause-broken
returns-in_err-log_line-clause-broken g c =
    on_err c.from_residual-in_err-log_line.result (λ f is number made.
    let m = subst (IsMade f) (sym c.self.view_is) made in
    let later = moment_later c.args.moment c.requires.moment.0 in
    let d0 = g.D.Desk.value c.args.desk.now in
    let d1 = g.D.Desk.value c.greet.new.desk in
    let d2 = g.D.Desk.value c.speak.new.desk in
    let d3 = g.D.Desk.value c.log_line.new.desk in
    let first = first_said c.events_begin.ensures (controller_ends f) f.syn.seq (c.args.moment - 1) d0 d1 d2 later refl m.controller m.controller_list
    (subst (λ n. Greeted c.args.moment n c.self.inside.controller c.greet.new.self d0 d1 false) (sym number) c.in_ok-greet.ensures.greeted) c.in_ok-speak.ensures.spoken c.in_ok-greet.ensures.ends c.in_ok-speak.ensures.ends c.greet.ensures.frame.lines c.speak.ensures.frame.lines in
    let text = line_is f Begun is m.source later in
    let frame = puts_both d0 d1 d2 c.in_ok-greet.ensures.frame.rest c.in_ok-speak.ensures.frame.rest in
    line_failed f (c.args.moment - 1) d0 d2 d3 first.told frame
    (subst (λ l. MayHaveAdded (l ∷ []) d2 d3) text c.in_err-log_line.ensures.fails) c.log_line.ensures.frame)
