use Rattle.std.proofs.Common.{◌≡◌, ◌∷◌, sym, ap, ◌∙◌, subst}
use Rattle.std.specs.Option.{unwrap_or}
use Rattle.cf_packet.specs.Packet.{packet_value}
use Rattle.cf_view.specs.declared.Side.{Side}
use Rattle.cf_session.proofs.Misfits.{client_is, controller_is, from_client, from_controller}
use Rattle.cf_session.specs.Misfit.{controller_number, misfit_by, misfit_of, reach_by}
use Rattle.cf_session.specs.Parts.{SessionValue}
use Rattle.cf_session.specs.Stands.{IsSessionOf}
use Rattle.cf_session.proofs.session.Session.misfit.Goals as goal

pub returns-in-Client : goal.returns-in-Client
returns-in-Client c = record {
  value = λ flow earlier event stands.
      let v : SessionValue = record { client = c.self.inside.client; controller = c.self.inside.controller; lane = c.self.inside.lane; to_client = c.self.inside.to_client; to_controller = c.self.inside.to_controller; closed = c.self.inside.closed; limit = c.self.inside.limit; source = c.self.inside.source } in
      let s : IsSessionOf flow earlier event v = subst (IsSessionOf flow earlier event) (sym c.self.view_is) stands in
      let p = packet_value c.args.packet.now in
      let number : c.unwrap_or-client.result ≡ flow.syn.seq = c.unwrap_or-client.ensures ∙ ap (λ o. unwrap_or o 0) (c.peer_origin.ensures.value ∙ client_is flow earlier event v s) in
      let other : c.peer_origin-controller.result ≡ controller_number flow (event ∷ earlier) = c.peer_origin-controller.ensures.value ∙ controller_is flow earlier event v s in
      c.misfit_at.ensures ∙ ap (λ (x : Side). misfit_by (reach_by x c.unwrap_or-client.result c.peer_origin-controller.result v.to_client.sent v.client.window.edge) p) c.in-Client.is
      ∙ from_client flow earlier event v s c.unwrap_or-client.result c.peer_origin-controller.result p number other ∙ ap (λ (x : Side). misfit_of flow (event ∷ earlier) x p) (sym c.in-Client.is);
}

pub returns-in-Controller : goal.returns-in-Controller
returns-in-Controller c = record {
  value = λ flow earlier event stands.
      let v : SessionValue = record { client = c.self.inside.client; controller = c.self.inside.controller; lane = c.self.inside.lane; to_client = c.self.inside.to_client; to_controller = c.self.inside.to_controller; closed = c.self.inside.closed; limit = c.self.inside.limit; source = c.self.inside.source } in
      let s : IsSessionOf flow earlier event v = subst (IsSessionOf flow earlier event) (sym c.self.view_is) stands in
      let p = packet_value c.args.packet.now in
      let number : c.unwrap_or-client.result ≡ flow.syn.seq = c.unwrap_or-client.ensures ∙ ap (λ o. unwrap_or o 0) (c.peer_origin.ensures.value ∙ client_is flow earlier event v s) in
      let other : c.peer_origin-controller.result ≡ controller_number flow (event ∷ earlier) = c.peer_origin-controller.ensures.value ∙ controller_is flow earlier event v s in
      c.misfit_at-in-Controller.ensures ∙ ap (λ (x : Side). misfit_by (reach_by x c.unwrap_or-client.result c.peer_origin-controller.result v.to_controller.sent v.controller.window.edge) p) c.in-Controller.is
      ∙ from_controller flow earlier event v s c.unwrap_or-client.result c.peer_origin-controller.result p number other ∙ ap (λ (x : Side). misfit_of flow (event ∷ earlier) x p) (sym c.in-Controller.is);
}
