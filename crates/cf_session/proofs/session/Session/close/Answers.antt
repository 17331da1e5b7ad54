use Rattle.std.proofs.Common.{◌≡◌, ℕ, true, false, [], ◌∷◌, refl, ap, ◌∙◌, subst}
use Rattle.std.specs.Option.{is_some}
use Rattle.cf_audit.specs.Line.{Close}
use Rattle.cf_lane.specs.Log.{line_about}
use Rattle.cf_policy.specs.Site.{SiteValue}
use Rattle.cf_session.proofs.Telling.{told_lines}
use Rattle.cf_session.specs.Parts.{SessionValue}
use Rattle.cf_session.specs.Told.{told, with_both}
use Rattle.cf_session.specs.Turn.{closing_lines, is_done_now}
use Rattle.cf_lane.specs.Handled.{MayHaveAdded}
use Rattle.cf_session.proofs.Amid.{amid_lines, on_err}
use Rattle.cf_session.proofs.session.Session.close.Goals as goal

-- the line of a session that is done and was not closed
closing : (site : SiteValue) (now : ℕ) {s r : SessionValue} {admitted refused : ℕ} → s ≡ r → true ≡ is_done_now r → false ≡ is_some s.closed → admitted ≡ s.lane.admitted → refused ≡ s.lane.refused →
    line_about site.first s.source now (Close admitted refused) ∷ [] ≡ closing_lines site r now
closing site now same done open_ a f = rw (a, f, same, ← done, ← (open_ ∙ ap (λ (x : SessionValue). is_some x.closed) same)) refl

pub returns-clause-told : goal.returns-clause-told
returns-clause-told g c =
    let d0 = g.D.Desk.value c.args.desk.now in
    let text = closing c.args.site.now c.args.moment c.self.view_is c.if-not-is_done.ensures c.if-is_some.ensures c.admitted-admitted.ensures c.refused-refused.ensures in
    told_lines d0 (g.D.Desk.value c.log_line.new.desk) (line_about c.args.site.now.first c.self.inside.source c.args.moment (Close c.admitted-admitted.result c.refused-refused.result) ∷ []) c.log_line.ensures.frame.packets c.in_ok-log_line.ensures.lines ∙ ap (λ ls. with_both (told d0) [] ls) text

pub returns-in_err-log_line-clause-broken : goal.returns-in_err-log_line-clause-broken
returns-in_err-log_line-clause-broken g c =
    let d0 = g.D.Desk.value c.args.desk.now in
    let d1 = g.D.Desk.value c.log_line.new.desk in
    let text = closing c.args.site.now c.args.moment c.self.view_is c.if-not-is_done.ensures c.if-is_some.ensures c.admitted-admitted.ensures c.refused-refused.ensures in
    on_err _ (amid_lines _ d0 d1 (subst (λ l. MayHaveAdded l d0 d1) text c.in_err-log_line.ensures.fails) c.log_line.ensures.frame)
