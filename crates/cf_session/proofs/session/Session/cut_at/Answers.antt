use Rattle.std.proofs.Common.{[], ◌∷◌, true, false, refl, ap, ◌∙◌, subst}
use Rattle.cf_audit.specs.Line.{Cut as CutLine}
use Rattle.cf_lane.specs.Handled.{MayHaveAdded}
use Rattle.cf_outside.proofs.Desks.{puts_both}
use Rattle.cf_session.proofs.Amid.{amid_before, amid_lines, gets_after, gets_sent, on_err}
use Rattle.cf_session.proofs.Legs.{client_in, controller_in, rights_of}
use Rattle.cf_session.proofs.Telling.{line_is, told_lines}
use Rattle.cf_session.specs.Broken.{Gets}
use Rattle.cf_session.specs.Parts.{SessionValue}
use Rattle.cf_session.specs.Sent.{at}
use Rattle.cf_session.proofs.session.Session.cut_at.Goals as goal

pub returns-in_err-cut-clause-broken : goal.returns-in_err-cut-clause-broken
returns-in_err-cut-clause-broken g c =
    on_err c.from_residual.result (λ flow cs ds x y is src lc ld.
    let now = c.args.moment in
    let d0 = g.D.Desk.value c.args.desk.now in
    let d1 = g.D.Desk.value c.cut.new.desk in
    let r = rights_of flow x y cs ds (controller_in c.self.view_is lc) (client_in c.self.view_is ld) in
    record { rsts = r; gets = amid_before (at now (r.to_controller ∷ [])) (at now (r.to_client ∷ [])) [] _ d0 d1 (gets_sent true now (r.to_controller ∷ []) d0 d1 c.in_err-cut.ensures.cut.gets c.in_err-cut.ensures.frame) })

pub returns-in_err-cut-2-clause-broken : goal.returns-in_err-cut-2-clause-broken
returns-in_err-cut-2-clause-broken g c =
    on_err c.from_residual-in_err-cut-2.result (λ flow cs ds x y is src lc ld.
    let now = c.args.moment in
    let d0 = g.D.Desk.value c.args.desk.now in
    let d1 = g.D.Desk.value c.cut.new.desk in
    let d2 = g.D.Desk.value c.cut-2.new.desk in
    let r = rights_of flow x y cs ds (controller_in c.self.view_is lc) (client_in c.self.view_is ld) in
    let one = gets_sent false now (r.to_controller ∷ []) d0 d1 c.in_ok-cut.ensures.cut.gets c.in_ok-cut.ensures.frame in
    let two = gets_sent true now (r.to_client ∷ []) d1 d2 c.in_err-cut-2.ensures.cut.gets c.in_err-cut-2.ensures.frame in
    record {
      rsts = r;
      gets = amid_before (at now (r.to_controller ∷ r.to_client ∷ [])) [] [] _ d0 d2
          (gets_after true (at now (r.to_controller ∷ [])) (at now (r.to_client ∷ [])) [] [] d0 d1 d2 one c.in_ok-cut.ensures.frame.rest two);
    })

pub returns-in_err-log_line-clause-broken : goal.returns-in_err-log_line-clause-broken
returns-in_err-log_line-clause-broken g c =
    on_err c.from_residual-in_err-log_line.result (λ flow cs ds x y is src lc ld.
    let now = c.args.moment in
    let d0 = g.D.Desk.value c.args.desk.now in
    let d1 = g.D.Desk.value c.cut.new.desk in
    let d2 = g.D.Desk.value c.cut-2.new.desk in
    let d3 = g.D.Desk.value c.log_line.new.desk in
    let r = rights_of flow x y cs ds (controller_in c.self.view_is lc) (client_in c.self.view_is ld) in
    let one = gets_sent false now (r.to_controller ∷ []) d0 d1 c.in_ok-cut.ensures.cut.gets c.in_ok-cut.ensures.frame in
    let two = gets_sent false now (r.to_client ∷ []) d1 d2 c.in_ok-cut-2.ensures.cut.gets c.in_ok-cut-2.ensures.frame in
    let text = line_is flow (CutLine c.args.reason) is (ap (λ (s : SessionValue). s.source) c.self.view_is ∙ src) refl in
    record {
      rsts = r;
      gets = gets_after true (at now (r.to_controller ∷ r.to_client ∷ [])) [] [] _ d0 d2 d3
          (gets_after false (at now (r.to_controller ∷ [])) (at now (r.to_client ∷ [])) [] [] d0 d1 d2 one c.in_ok-cut.ensures.frame.rest two)
          (puts_both d0 d1 d2 c.in_ok-cut.ensures.frame.rest c.in_ok-cut-2.ensures.frame.rest)
          (amid_lines _ d2 d3 (subst (λ l. MayHaveAdded (l ∷ []) d2 d3) text c.in_err-log_line.ensures.fails) c.log_line.ensures.frame);
    })

pub returns-clause-cuts : goal.returns-clause-cuts
returns-clause-cuts g c = (
  refl,
  λ flow cs ds x y is src lc ld.
      let now = c.args.moment in
      let d0 = g.D.Desk.value c.args.desk.now in
      let d1 = g.D.Desk.value c.cut.new.desk in
      let d2 = g.D.Desk.value c.cut-2.new.desk in
      let d3 = g.D.Desk.value c.log_line.new.desk in
      let r = rights_of flow x y cs ds (controller_in c.self.view_is lc) (client_in c.self.view_is ld) in
      let one = gets_sent false now (r.to_controller ∷ []) d0 d1 c.in_ok-cut.ensures.cut.gets c.in_ok-cut.ensures.frame in
      let two = gets_sent false now (r.to_client ∷ []) d1 d2 c.in_ok-cut-2.ensures.cut.gets c.in_ok-cut-2.ensures.frame in
      let text = line_is flow (CutLine c.args.reason) is (ap (λ (s : SessionValue). s.source) c.self.view_is ∙ src) refl in
      record {
        rsts = r;
        gets = gets_after false (at now (r.to_controller ∷ r.to_client ∷ [])) [] [] _ d0 d2 d3
            (gets_after false (at now (r.to_controller ∷ [])) (at now (r.to_client ∷ [])) [] [] d0 d1 d2 one c.in_ok-cut.ensures.frame.rest two)
            (puts_both d0 d1 d2 c.in_ok-cut.ensures.frame.rest c.in_ok-cut-2.ensures.frame.rest)
            (subst (λ l. Gets false [] (l ∷ []) d2 d3) text (told_lines d2 d3 _ c.in_ok-log_line.ensures.frame.packets c.in_ok-log_line.ensures.lines));
      },
)
