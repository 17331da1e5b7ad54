use Rattle.std.proofs.Common.{sym, ◌∙◌, subst}
use Rattle.cf_session.proofs.Counts.{admitted_is}
use Rattle.cf_session.specs.Session.{client_of}
use Rattle.cf_session.specs.Stands.{IsSessionOf}
use Rattle.cf_session.proofs.session.Session.admitted.Goals as goal

pub returns-clause-counts : goal.returns-clause-counts
returns-clause-counts c = λ flow es e stands.
    let s = subst (IsSessionOf flow es e) (sym c.self.view_is) stands in
    c.admitted.ensures ∙ admitted_is flow.site (client_of flow) c.self.inside.lane _ _ e.work c.self.inside.to_client c.self.inside.to_controller s.parts.lane s.parts.to_client s.parts.to_controller
