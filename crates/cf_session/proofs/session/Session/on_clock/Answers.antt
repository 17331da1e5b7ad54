use Rattle.std.proofs.Common.{◌∷◌, refl, sym, ◌∙◌, subst}
use Rattle.std.proofs.lemmas.Result.{IfOk-weaker}
use Rattle.cf_leg.specs.Event.{begun, clocked}
use Rattle.cf_outq.specs.SendQueue.{IsQueueOf}
use Rattle.cf_session.proofs.Ticks.{and_nothing, client_begins, client_fires, client_ticks, controller_fires, controller_ticks, live_stands, live_told, silent_client, silent_controller, silent_ticks, ticks_live, unexpired}
use Rattle.cf_session.specs.Session.{clients, controllers}
use Rattle.cf_session.specs.Stands.{IsSessionOf, TicksBy}
use Rattle.cf_session.specs.Told.{told}
use Rattle.std.proofs.lemmas.Result.{on_err_weaker}
use Rattle.cf_outside.proofs.Desks.{puts_both}
use Rattle.cf_session.proofs.Amid.{on_err}
use Rattle.cf_session.proofs.Telling.{then_sent}
use Rattle.cf_session.proofs.TicksAmid.{client_failed, controller_failed, silent_cut_failed}
use Rattle.cf_session.proofs.session.Session.on_clock.Goals as goal

pub returns-then-is_silent-clause-ticks : goal.returns-then-is_silent-clause-ticks
returns-then-is_silent-clause-ticks g c =
    IfOk-weaker c.cut_at.result _ _ (λ l h. λ f es e is stands.
    let now = c.args.moment in
    let s = subst (IsSessionOf f es e) (sym c.self.view_is) stands in
    let early = unexpired s c.args.moment c.is_over.ensures c.if-is_over.false in
    let t0 = told (g.D.Desk.value c.args.desk.now) in
    let t1 = told (g.D.Desk.value c.on_clock.new.desk) in
    let a = controller_ticks s t0 t1 c.in_ok-on_clock.ensures.clocked c.on_clock.ensures.ends c.on_clock.ensures.queue c.on_clock.ensures.frame.lines in
    let silent = sym a.answer ∙ sym c.is_silent.ensures ∙ c.if-is_silent.true in
    let cuts = h.1 f (controllers (e ∷ es)) (clients (e ∷ es)) (clocked now (controller_fires f es e now)) (begun now) is s.source a.stands (client_begins s c.events_begin.ensures now) in
    let ticks = silent_ticks (silent_controller f es e now silent) early (controller_fires f es e now) cuts.rsts t0 t1 _ (and_nothing t0 t1 now (controller_fires f es e now) a.told) cuts.gets in
    subst (TicksBy f (e ∷ es) now _ _ _) (sym h.0) (_, ticks, refl)) c.cut_at.ensures.cuts

pub returns-then-is_silent-2-clause-ticks : goal.returns-then-is_silent-2-clause-ticks
returns-then-is_silent-2-clause-ticks g c =
    IfOk-weaker c.cut_at-then-is_silent-2.result _ _ (λ l h. λ f es e is stands.
    let now = c.args.moment in
    let t1 = told (g.D.Desk.value c.on_clock.new.desk) in
    let s = subst (IsSessionOf f es e) (sym c.self.view_is) stands in
    let early = unexpired s c.args.moment c.is_over.ensures c.if-is_over.false in
    let a = controller_ticks s (told (g.D.Desk.value c.args.desk.now)) t1 c.in_ok-on_clock.ensures.clocked c.on_clock.ensures.ends c.on_clock.ensures.queue c.on_clock.ensures.frame.lines in
    let b = client_ticks s t1 (told (g.D.Desk.value c.on_clock-2.new.desk)) c.in_ok-on_clock-2.ensures.clocked c.on_clock-2.ensures.ends c.on_clock-2.ensures.queue c.on_clock-2.ensures.frame.lines in
    let quiet = sym a.answer ∙ sym c.is_silent.ensures ∙ c.if-is_silent.false in
    let silent = sym b.answer ∙ sym c.is_silent-2.ensures ∙ c.if-is_silent-2.true in
    let fc = controller_fires f es e now in
    let fd = client_fires f es e now in
    let cuts = h.1 f (controllers (e ∷ es)) (clients (e ∷ es)) (clocked now fc) (clocked now fd) is s.source a.stands b.stands in
    let ticks = silent_ticks (silent_client f es e now quiet silent) early fc cuts.rsts _ _ _ (then_sent _ _ _ now fc fd a.told b.told) cuts.gets in
    subst (TicksBy f (e ∷ es) now _ _ _) (sym h.0) (_, ticks, refl)) c.cut_at-then-is_silent-2.ensures.cuts

pub returns-clause-ticks : goal.returns-clause-ticks
returns-clause-ticks g c = λ f es e is stands.
    let now = c.args.moment in
    let t1 = told (g.D.Desk.value c.on_clock.new.desk) in
    let s = subst (IsSessionOf f es e) (sym c.self.view_is) stands in
    let early = unexpired s c.args.moment c.is_over.ensures c.if-is_over.false in
    let a = controller_ticks s (told (g.D.Desk.value c.args.desk.now)) t1 c.in_ok-on_clock.ensures.clocked c.on_clock.ensures.ends c.on_clock.ensures.queue c.on_clock.ensures.frame.lines in
    let b = client_ticks s t1 (told (g.D.Desk.value c.on_clock-2.new.desk)) c.in_ok-on_clock-2.ensures.clocked c.on_clock-2.ensures.ends c.on_clock-2.ensures.queue c.on_clock-2.ensures.frame.lines in
    let quiet = sym a.answer ∙ sym c.is_silent.ensures ∙ c.if-is_silent.false in
    let silent = sym b.answer ∙ sym c.is_silent-2.ensures ∙ c.if-is_silent-2.false in
    let told = live_told f es e now _ s early quiet silent a.right b.right _ _ _ a.told b.told in
    let next = live_stands f es e now _ s early quiet silent a.right b.right c.on_clock-2.new.self c.on_clock.new.self c.on_clock-2.new.queue c.on_clock.new.queue b.stands a.stands
    (subst (λ q. IsQueueOf q e.work.to_client) (sym c.on_clock-2.ensures.queue) s.parts.to_client) (subst (λ q. IsQueueOf q e.work.to_controller) (sym c.on_clock.ensures.queue) s.parts.to_controller) c.on_clock-2.ensures.kept c.on_clock.ensures.kept in
    subst (TicksBy f (e ∷ es) now _ _ _) (sym c.life_of.ensures.value)
    (ticks_live f (e ∷ es) now _ _ _ _ _ told next next.closed)

pub returns-in_err-on_clock-clause-broken : goal.returns-in_err-on_clock-clause-broken
returns-in_err-on_clock-clause-broken g c =
    on_err c.from_residual.result (λ f es e is stands.
    let s = subst (IsSessionOf f es e) (sym c.self.view_is) stands in
    let early = unexpired s c.args.moment c.is_over.ensures c.if-is_over.false in
    controller_failed f es e c.args.moment _ s early (g.D.Desk.value c.args.desk.now) (g.D.Desk.value c.args.desk.now) (g.D.Desk.value c.on_clock.new.desk) c.in_err-on_clock.ensures.broken c.on_clock.ensures.frame)

pub returns-then-is_silent-clause-broken : goal.returns-then-is_silent-clause-broken
returns-then-is_silent-clause-broken g c =
    on_err_weaker c.cut_at.result (λ h. λ f es e is stands.
    let now = c.args.moment in
    let d0 = g.D.Desk.value c.args.desk.now in
    let d1 = g.D.Desk.value c.on_clock.new.desk in
    let s = subst (IsSessionOf f es e) (sym c.self.view_is) stands in
    let early = unexpired s c.args.moment c.is_over.ensures c.if-is_over.false in
    let a = controller_ticks s (told d0) (told d1) c.in_ok-on_clock.ensures.clocked c.on_clock.ensures.ends c.on_clock.ensures.queue c.on_clock.ensures.frame.lines in
    let silent = sym a.answer ∙ sym c.is_silent.ensures ∙ c.if-is_silent.true in
    let cuts = h f (controllers (e ∷ es)) (clients (e ∷ es)) (clocked now (controller_fires f es e now)) (begun now) is s.source a.stands (client_begins s c.events_begin.ensures now) in
    silent_cut_failed (silent_controller f es e now silent) early (controller_fires f es e now) d0 d1 (g.D.Desk.value c.cut_at.new.desk) (and_nothing (told d0) (told d1) now (controller_fires f es e now) a.told) c.in_ok-on_clock.ensures.frame.rest cuts) c.cut_at.ensures.broken

pub returns-in_err-on_clock-2-clause-broken : goal.returns-in_err-on_clock-2-clause-broken
returns-in_err-on_clock-2-clause-broken g c =
    on_err c.from_residual-in_err-on_clock-2.result (λ f es e is stands.
    let d0 = g.D.Desk.value c.args.desk.now in
    let d1 = g.D.Desk.value c.on_clock.new.desk in
    let s = subst (IsSessionOf f es e) (sym c.self.view_is) stands in
    let early = unexpired s c.args.moment c.is_over.ensures c.if-is_over.false in
    let a = controller_ticks s (told d0) (told d1) c.in_ok-on_clock.ensures.clocked c.on_clock.ensures.ends c.on_clock.ensures.queue c.on_clock.ensures.frame.lines in
    let quiet = sym a.answer ∙ sym c.is_silent.ensures ∙ c.if-is_silent.false in
    client_failed f es e c.args.moment _ s early d0 d1 (g.D.Desk.value c.on_clock-2.new.desk) a.told c.in_ok-on_clock.ensures.frame.rest quiet c.in_err-on_clock-2.ensures.broken c.on_clock-2.ensures.frame)

pub returns-then-is_silent-2-clause-broken : goal.returns-then-is_silent-2-clause-broken
returns-then-is_silent-2-clause-broken g c =
    on_err_weaker c.cut_at-then-is_silent-2.result (λ h. λ f es e is stands.
    let now = c.args.moment in
    let d0 = g.D.Desk.value c.args.desk.now in
    let d1 = g.D.Desk.value c.on_clock.new.desk in
    let d2 = g.D.Desk.value c.on_clock-2.new.desk in
    let s = subst (IsSessionOf f es e) (sym c.self.view_is) stands in
    let early = unexpired s c.args.moment c.is_over.ensures c.if-is_over.false in
    let a = controller_ticks s (told d0) (told d1) c.in_ok-on_clock.ensures.clocked c.on_clock.ensures.ends c.on_clock.ensures.queue c.on_clock.ensures.frame.lines in
    let b = client_ticks s (told d1) (told d2) c.in_ok-on_clock-2.ensures.clocked c.on_clock-2.ensures.ends c.on_clock-2.ensures.queue c.on_clock-2.ensures.frame.lines in
    let quiet = sym a.answer ∙ sym c.is_silent.ensures ∙ c.if-is_silent.false in
    let silent = sym b.answer ∙ sym c.is_silent-2.ensures ∙ c.if-is_silent-2.true in
    let fc = controller_fires f es e now in
    let fd = client_fires f es e now in
    let cuts = h f (controllers (e ∷ es)) (clients (e ∷ es)) (clocked now fc) (clocked now fd) is s.source a.stands b.stands in
    let frame = puts_both d0 d1 d2 c.in_ok-on_clock.ensures.frame.rest c.in_ok-on_clock-2.ensures.frame.rest in
    silent_cut_failed (silent_client f es e now quiet silent) early fc d0 d2 (g.D.Desk.value c.cut_at-then-is_silent-2.new.desk) (then_sent (told d0) (told d1) (told d2) now fc fd a.told b.told) frame cuts) c.cut_at-then-is_silent-2.ensures.broken
