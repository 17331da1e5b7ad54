use Rattle.std.proofs.Common.{refl, sym, ap, ◌∙◌, subst}
use Rattle.std.proofs.lemmas.Result.{IfOk-weaker}
use Rattle.cf_packet.specs.Packet.{packet_value}
use Rattle.cf_session.proofs.Assembled.{is_half}
use Rattle.cf_session.proofs.Final.{amid_here, counts_cut, half_heard, heard_at, hears_by, hears_cut, hears_live, lives_three, says_here}
use Rattle.cf_session.proofs.Sound.{is_short, lane_uncut, reason_is, sound_after}
use Rattle.cf_session.specs.Parts.{SessionValue}
use Rattle.cf_session.specs.Session.{clients, controllers}
use Rattle.cf_session.specs.Stands.{HearsBy}
use Rattle.cf_session.specs.Told.{told}
use Rattle.std.proofs.lemmas.Result.{on_err_weaker}
use Rattle.cf_outside.proofs.Desks.{puts_both, puts_failed}
use Rattle.cf_session.proofs.Amid.{on_err}
use Rattle.cf_session.proofs.FinalAmid.{close_failed, cut_failed, hear_failed, speak_failed}
use Rattle.cf_session.proofs.session.Session.on_packet.Goals as goal

pub returns-in-Some-clause-hears : goal.returns-in-Some-clause-hears
returns-in-Some-clause-hears g c =
    IfOk-weaker c.cut_at.result _ _ (λ l x. λ flow es t is stands tick at.
    let t2 = told (g.D.Desk.value c.cut_at.new.desk) in
    let r = c.in-Some.reason in
    let heard = heard_at c.in_ok-heard.ensures.hears c.hear.ensures.same c.base_counts_the_taken.ensures is stands tick at in
    let because = reason_is c.args.side c.in_ok-heard.heard.answer c.in_ok-heard.heard.cut c.self.view_is c.is_some.ensures c.is_reset.ensures c.full-full.ensures (sym c.in-Some.is ∙ c.why.ensures) in
    let cuts = x.1 flow (controllers es) (clients es) (half_heard heard).controller (half_heard heard).client is (c.hear.ensures.same.1 ∙ stands.source) heard.by.parts.controller heard.by.parts.client in
    subst (HearsBy flow (SessionValue.limit c.args.self.now) es t c.args.side (packet_value c.args.packet.now) c.cut_at.new.self (told (g.D.Desk.value c.args.desk.now)) t2) (sym x.0)
    (_, hears_cut heard r because cuts.rsts t2 cuts.gets, refl, counts_cut heard r because cuts.rsts c.cut_at.new.self c.cut_at.ensures.same.2)) c.cut_at.ensures.cuts

pub returns-clause-hears : goal.returns-clause-hears
returns-clause-hears g c = λ flow es t is stands tick at.
    let s0 : SessionValue = c.args.self.now in
    let s2 : SessionValue = c.speak.new.self in
    let s3 : SessionValue = c.close.new.self in
    let t0 = told (g.D.Desk.value c.args.desk.now) in
    let t2 = told (g.D.Desk.value c.speak.new.desk) in
    let t3 = told (g.D.Desk.value c.close.new.desk) in
    let heard = heard_at c.in_ok-heard.ensures.hears c.hear.ensures.same c.base_counts_the_taken.ensures is stands tick at in
    let because = reason_is c.args.side c.in_ok-heard.heard.answer c.in_ok-heard.heard.cut c.self.view_is c.is_some.ensures c.is_reset.ensures c.full-full.ensures (sym c.in_default.is ∙ c.why.ensures) in
    let uncut = lane_uncut c.args.side c.in_ok-heard.heard.answer c.in_ok-heard.heard.cut c.hear.new.self c.in_ok-heard.ensures.steady because in
    let says = says_here heard s2 t2 c.greeting_number.ensures c.in_ok-speak.ensures.says in
    let qc = c.in_ok-speak.ensures.client_stands heard.by.work.to_client heard.by.parts.to_client in
    let qk = c.in_ok-speak.ensures.controller_stands heard.by.work.to_controller heard.by.parts.to_controller in
    let only = c.in_ok-speak.ensures.only in
    let done = hears_live heard because uncut s2 s3 t2 t3 says only qc qk c.close.ensures.same c.in_ok-close.ensures.closed c.args.site.now is c.in_ok-close.ensures.told in
    let stay = lives_three heard because uncut s2 s3 t2 t3 says only qc qk c.close.ensures.same c.in_ok-close.ensures.closed c.args.site.now is c.in_ok-close.ensures.told in
    let p = packet_value c.args.packet.now in
    subst (HearsBy flow s0.limit es t c.args.side p s3 t0 t3) (sym c.life_of.ensures.value)
    (hears_by flow s0.limit es t c.args.side p s3 t0 t3 c.self-2.inside.closed _ done stay (ap (λ (s : SessionValue). s.closed) c.self-2.view_is ∙ stay.closed))

pub returns-clause-sound : goal.returns-clause-sound
returns-clause-sound g c = λ life.
    let because = reason_is c.args.side c.in_ok-heard.heard.answer c.in_ok-heard.heard.cut c.self.view_is c.is_some.ensures c.is_reset.ensures c.full-full.ensures (sym c.in_default.is ∙ c.why.ensures) in
    let short = is_short c.args.side c.in_ok-heard.heard.answer c.in_ok-heard.heard.cut c.hear.new.self c.in_ok-heard.ensures.steady because in
    sound_after c.args.site.now c.hear.new.self c.speak.new.self c.close.new.self c.args.moment c.requires.sound.within c.in_ok-heard.ensures.serves c.in_ok-speak.ensures.only c.in_ok-speak.ensures.steady short c.close.ensures.same c.in_ok-close.ensures.closed

pub returns-in_err-heard-clause-broken : goal.returns-in_err-heard-clause-broken
returns-in_err-heard-clause-broken g c =
    on_err c.from_residual.result (λ flow es t is stands tick at.
    hear_failed flow es t c.args.self.now stands tick c.args.side (packet_value c.args.packet.now) (g.D.Desk.value c.args.desk.now) (g.D.Desk.value c.hear.new.desk)
    (c.in_err-heard.ensures.broken flow es t is (is_half flow es t c.args.self.now stands tick) at stands.parts))

pub returns-in-Some-clause-broken : goal.returns-in-Some-clause-broken
returns-in-Some-clause-broken g c =
    on_err_weaker c.cut_at.result (λ x. λ flow es t is stands tick at.
    let d0 = g.D.Desk.value c.args.desk.now in
    let d1 = g.D.Desk.value c.hear.new.desk in
    let heard = heard_at c.in_ok-heard.ensures.hears c.hear.ensures.same c.base_counts_the_taken.ensures is stands tick at in
    let because = reason_is c.args.side c.in_ok-heard.heard.answer c.in_ok-heard.heard.cut c.self.view_is c.is_some.ensures c.is_reset.ensures c.full-full.ensures (sym c.in-Some.is ∙ c.why.ensures) in
    let cuts = x flow (controllers es) (clients es) (half_heard heard).controller (half_heard heard).client is (c.hear.ensures.same.1 ∙ stands.source) heard.by.parts.controller heard.by.parts.client in
    cut_failed d0 d1 heard c.in_ok-heard.ensures.frame c.in-Some.reason because (g.D.Desk.value c.cut_at.new.desk) cuts) c.cut_at.ensures.broken

pub returns-in_err-speak-clause-broken : goal.returns-in_err-speak-clause-broken
returns-in_err-speak-clause-broken g c =
    on_err c.from_residual-in_err-speak.result (λ flow es t is stands tick at.
    let d0 = g.D.Desk.value c.args.desk.now in
    let d1 = g.D.Desk.value c.hear.new.desk in
    let d2 = g.D.Desk.value c.speak.new.desk in
    let heard = heard_at c.in_ok-heard.ensures.hears c.hear.ensures.same c.base_counts_the_taken.ensures is stands tick at in
    let because = reason_is c.args.side c.in_ok-heard.heard.answer c.in_ok-heard.heard.cut c.self.view_is c.is_some.ensures c.is_reset.ensures c.full-full.ensures (sym c.in_default.is ∙ c.why.ensures) in
    let uncut = lane_uncut c.args.side c.in_ok-heard.heard.answer c.in_ok-heard.heard.cut c.hear.new.self c.in_ok-heard.ensures.steady because in
    speak_failed d0 d1 heard c.in_ok-heard.ensures.frame because uncut d2 (amid_here heard d1 d2 c.greeting_number.ensures c.in_err-speak.ensures.broken))

pub returns-in_err-close-clause-broken : goal.returns-in_err-close-clause-broken
returns-in_err-close-clause-broken g c =
    on_err c.from_residual-in_err-close.result (λ flow es t is stands tick at.
    let d0 = g.D.Desk.value c.args.desk.now in
    let d1 = g.D.Desk.value c.hear.new.desk in
    let d2 = g.D.Desk.value c.speak.new.desk in
    let d3 = g.D.Desk.value c.close.new.desk in
    let s2 : SessionValue = c.speak.new.self in
    let heard = heard_at c.in_ok-heard.ensures.hears c.hear.ensures.same c.base_counts_the_taken.ensures is stands tick at in
    let because = reason_is c.args.side c.in_ok-heard.heard.answer c.in_ok-heard.heard.cut c.self.view_is c.is_some.ensures c.is_reset.ensures c.full-full.ensures (sym c.in_default.is ∙ c.why.ensures) in
    let uncut = lane_uncut c.args.side c.in_ok-heard.heard.answer c.in_ok-heard.heard.cut c.hear.new.self c.in_ok-heard.ensures.steady because in
    let says = says_here heard s2 (told d2) c.greeting_number.ensures c.in_ok-speak.ensures.says in
    let qc = c.in_ok-speak.ensures.client_stands heard.by.work.to_client heard.by.parts.to_client in
    let qk = c.in_ok-speak.ensures.controller_stands heard.by.work.to_controller heard.by.parts.to_controller in
    close_failed d0 d1 heard c.in_ok-heard.ensures.frame because uncut s2 d2 d3 says c.in_ok-speak.ensures.only qc qk c.args.site.now is c.in_ok-speak.ensures.frame c.in_err-close.ensures.broken)

pub returns-in_err-close-clause-frame : goal.returns-in_err-close-clause-frame
returns-in_err-close-clause-frame g c =
    puts_failed _ c.from_residual-in_err-close.result _ _ c.from_residual-in_err-close.ensures.1
    (puts_both _ _ _ c.in_ok-heard.ensures.frame (puts_both _ _ _ c.in_ok-speak.ensures.frame c.in_err-close.ensures.frame))

pub returns-clause-frame : goal.returns-clause-frame
returns-clause-frame g c = puts_both _ _ _ c.in_ok-heard.ensures.frame (puts_both _ _ _ c.in_ok-speak.ensures.frame c.in_ok-close.ensures.frame)
