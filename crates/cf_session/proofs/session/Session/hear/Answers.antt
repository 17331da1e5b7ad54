use Rattle.std.proofs.Common.{◌+◌, ◌∷◌, refl, sym, ap, ◌∙◌, subst}
use Rattle.cf_packet.specs.Packet.{packet_value}
use Rattle.cf_view.specs.declared.Side.TheVariants as side
use Rattle.cf_session.proofs.Parts.{are_uncut, client_at, controller_at, idle_leg, idle_taken}
use Rattle.cf_session.specs.Parts.{AreParts, SessionValue, rests}
use Rattle.cf_session.specs.Session.{client_ends, client_of, clients, controller_ends, controllers, history}
use Rattle.cf_session.specs.Told.{told}
use Rattle.cf_session.specs.Turn.{HeardAmid, HeardBy}
use Rattle.cf_session.proofs.PartsAmid.{heard_amid}
use Rattle.cf_session.proofs.Amid.{on_err}
use Rattle.cf_session.proofs.session.Session.hear.Goals as goal

pub returns-in_ok-heard-in-Client-clause-hears : goal.returns-in_ok-heard-in-Client-clause-hears
returns-in_ok-heard-in-Client-clause-hears g c = λ flow es t is half at stands.
    let old : SessionValue = record { client = c.self.inside.client; controller = c.self.inside.controller; lane = c.self.inside.lane; to_client = c.self.inside.to_client; to_controller = c.self.inside.to_controller; closed = c.self.inside.closed; limit = c.self.inside.limit; source = c.self.inside.source } in
    let h = subst (AreParts flow es t) (sym c.self.view_is) stands in
    let x = c.in_ok-heard-in-Client.ensures.hears (client_ends flow) (client_of flow) t.client (clients es) (rests old) (history (t ∷ es)) t.work (sym at)
    (idle_leg (client_ends flow) c.self.inside.client c.self.inside.to_client t.client (clients es) half.client_came half.client_ending h.client) (are_uncut half h is) refl
    (idle_taken (client_ends flow) t.client (clients es) _ half.client_came h.taken.client) in
    let new : SessionValue = record { client = c.hear.new.leg; controller = c.self.inside.controller; lane = c.hear.new.lane; to_client = c.hear.new.to_client; to_controller = c.hear.new.to_controller; closed = c.self.inside.closed; limit = c.self.inside.limit; source = c.self.inside.source } in
    let t0 = told (g.D.Desk.value c.args.desk.now) in
    let t1 = told (g.D.Desk.value c.hear.new.desk) in
    subst (λ s. HeardBy flow es t s (packet_value c.args.packet.now) new c.in_ok-heard-in-Client.heard.answer c.in_ok-heard-in-Client.heard.cut t0 t1) (sym c.in-Client.is)
    (client_at flow es t half (packet_value c.args.packet.now) old h new c.in_ok-heard-in-Client.heard.answer c.in_ok-heard-in-Client.heard.cut t0 t1 c.args.site.now is c.args.moment at x refl c.in_ok-heard-in-Client.ensures.room.other_pushed)

pub returns-in_ok-heard-in-Controller-clause-hears : goal.returns-in_ok-heard-in-Controller-clause-hears
returns-in_ok-heard-in-Controller-clause-hears g c = λ flow es t is half at stands.
    let old : SessionValue = record { client = c.self.inside.client; controller = c.self.inside.controller; lane = c.self.inside.lane; to_client = c.self.inside.to_client; to_controller = c.self.inside.to_controller; closed = c.self.inside.closed; limit = c.self.inside.limit; source = c.self.inside.source } in
    let h = subst (AreParts flow es t) (sym c.self.view_is) stands in
    let x = c.in_ok-heard-in-Controller.ensures.hears (controller_ends flow) (client_of flow) t.controller (controllers es) (rests old) (history (t ∷ es)) t.work (sym at ∙ ap (λ n. n + 1) (sym half.one_tick))
    (idle_leg (controller_ends flow) c.self.inside.controller c.self.inside.to_controller t.controller (controllers es) half.controller_came half.controller_ending h.controller) (are_uncut half h is) refl
    (idle_taken (controller_ends flow) t.controller (controllers es) _ half.controller_came h.taken.controller) in
    let new : SessionValue = record { controller = c.hear-in-Controller.new.leg; client = c.self.inside.client; lane = c.hear-in-Controller.new.lane; to_client = c.hear-in-Controller.new.to_client; to_controller = c.hear-in-Controller.new.to_controller; closed = c.self.inside.closed; limit = c.self.inside.limit; source = c.self.inside.source } in
    let t0 = told (g.D.Desk.value c.args.desk.now) in
    let t1 = told (g.D.Desk.value c.hear-in-Controller.new.desk) in
    subst (λ s. HeardBy flow es t s (packet_value c.args.packet.now) new c.in_ok-heard-in-Controller.heard.answer c.in_ok-heard-in-Controller.heard.cut t0 t1) (sym c.in-Controller.is)
    (controller_at flow es t half (packet_value c.args.packet.now) old h new c.in_ok-heard-in-Controller.heard.answer c.in_ok-heard-in-Controller.heard.cut t0 t1 c.args.site.now is c.args.moment at x refl c.in_ok-heard-in-Controller.ensures.room.other_pushed)

pub returns-in_err-heard-in-Client-clause-broken : goal.returns-in_err-heard-in-Client-clause-broken
returns-in_err-heard-in-Client-clause-broken g c =
    on_err c.from_residual.result (λ flow es t is half at stands.
    let old : SessionValue = record { client = c.self.inside.client; controller = c.self.inside.controller; lane = c.self.inside.lane; to_client = c.self.inside.to_client; to_controller = c.self.inside.to_controller; closed = c.self.inside.closed; limit = c.self.inside.limit; source = c.self.inside.source } in
    let h = subst (AreParts flow es t) (sym c.self.view_is) stands in
    let x = c.in_err-heard-in-Client.ensures.broken (client_ends flow) (client_of flow) t.client (clients es) (rests old) (history (t ∷ es)) t.work (sym at)
    (idle_leg (client_ends flow) c.self.inside.client c.self.inside.to_client t.client (clients es) half.client_came half.client_ending h.client) (are_uncut half h is) refl
    (idle_taken (client_ends flow) t.client (clients es) _ half.client_came h.taken.client) in
    let d0 = g.D.Desk.value c.args.desk.now in
    let d1 = g.D.Desk.value c.hear.new.desk in
    subst (λ s. HeardAmid flow es t s (packet_value c.args.packet.now) d0 d1) (sym c.in-Client.is)
    (heard_amid flow es t half (packet_value c.args.packet.now) old h d0 d1 c.args.site.now is c.args.moment at side.Client x))

pub returns-in_err-heard-in-Controller-clause-broken : goal.returns-in_err-heard-in-Controller-clause-broken
returns-in_err-heard-in-Controller-clause-broken g c =
    on_err c.from_residual-in_err-heard-in-Controller.result (λ flow es t is half at stands.
    let old : SessionValue = record { client = c.self.inside.client; controller = c.self.inside.controller; lane = c.self.inside.lane; to_client = c.self.inside.to_client; to_controller = c.self.inside.to_controller; closed = c.self.inside.closed; limit = c.self.inside.limit; source = c.self.inside.source } in
    let h = subst (AreParts flow es t) (sym c.self.view_is) stands in
    let x = c.in_err-heard-in-Controller.ensures.broken (controller_ends flow) (client_of flow) t.controller (controllers es) (rests old) (history (t ∷ es)) t.work (sym at ∙ ap (λ n. n + 1) (sym half.one_tick))
    (idle_leg (controller_ends flow) c.self.inside.controller c.self.inside.to_controller t.controller (controllers es) half.controller_came half.controller_ending h.controller) (are_uncut half h is) refl
    (idle_taken (controller_ends flow) t.controller (controllers es) _ half.controller_came h.taken.controller) in
    let d0 = g.D.Desk.value c.args.desk.now in
    let d1 = g.D.Desk.value c.hear-in-Controller.new.desk in
    subst (λ s. HeardAmid flow es t s (packet_value c.args.packet.now) d0 d1) (sym c.in-Controller.is)
    (heard_amid flow es t half (packet_value c.args.packet.now) old h d0 d1 c.args.site.now is c.args.moment at side.Controller x))
