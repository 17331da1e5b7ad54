use Rattle.std.proofs.Common.{◌≡◌, List, ℕ, Bool, None, true, false, sym, ap, ◌∙◌, subst, length, drop}
use Rattle.cf_lane.specs.Follows.{rest_of, with_rest}
use Rattle.cf_session.proofs.Turns.{follows_both, none_of, rest_of-with, still_uncut}
use Rattle.cf_session.specs.Told.{told}
use Rattle.cf_session.specs.Turn.{FollowsAmid, FollowsMore}
use Rattle.cf_session.proofs.Amid.{on_err}
use Rattle.cf_session.proofs.LanesAmid.{amid_behind}
use Rattle.cf_session.proofs.handing.hand_over.Goals as goal

pub returns-clause-follows : goal.returns-clause-follows
returns-clause-follows g c = λ client r h w piece st pending.
    let pend = c.pending_of.ensures.value in
    let used = c.in_ok-used.field-0.used in
    let cut = c.in_ok-used.field-0.cut in
    let t0 = told (g.D.Desk.value c.args.desk.now) in
    let t1 = told (g.D.Desk.value c.feed_lane.new.desk) in
    let t2 = told (g.D.Desk.value c.end_lane.new.desk) in
    let left : drop used c.pending_of.result.bytes ≡ c.consume.new.self.window.pending = ap (drop used) pend ∙ sym c.consume.ensures.window.pending in
    let r1 = with_rest c.args.side r c.consume.new.self.window.pending in
    let fed = c.in_ok-used.ensures.follows client r h w piece false tt st (pend ∙ pending) in
    let a = subst (λ (xs : List ℕ). FollowsMore c.args.site.now client c.args.moment c.args.side (with_rest c.args.side r xs) h w (record { bytes = piece; ended = false }) c.feed_lane.new.lane c.feed_lane.new.to_client c.feed_lane.new.to_controller cut t0 t1) left fed in
    let size : length c.pending_of-2.result.bytes ≡ length (rest_of c.args.side r1) = sym (ap length (rest_of-with c.args.side r c.consume.new.self.window.pending ∙ sym c.pending_of-2.ensures.value)) in
    let b = c.in_ok-end_lane.ensures.follows client r1 h w piece a.work (still_uncut a (none_of cut c.if-is_some.ensures)) (c.len-rest.ensures.length ∙ size) in
    let ended : true ≡ c.args.leg.now.window.ended = c.if-not-has_ended.ensures.value ∙ c.consume.ensures.window.ended in
    subst (λ (e : Bool). FollowsMore c.args.site.now client c.args.moment c.args.side r1 h w (record { bytes = piece; ended = e }) c.end_lane.new.lane c.end_lane.new.to_client c.end_lane.new.to_controller None t0 t2) ended
    (follows_both c.args.site.now client c.args.moment c.args.side r1 h w piece _ _ _ _ _ _ _ t0 t1 t2 a b)

pub returns-in_err-used-clause-broken : goal.returns-in_err-used-clause-broken
returns-in_err-used-clause-broken g c =
    on_err c.from_residual.result (λ client r h w piece st pending.
    c.in_err-used.ensures.broken client r h w piece c.args.leg.now.window.ended st (c.pending_of.ensures.value ∙ pending))

pub returns-in_err-end_lane-clause-broken : goal.returns-in_err-end_lane-clause-broken
returns-in_err-end_lane-clause-broken g c =
    on_err c.from_residual-in_err-end_lane.result (λ client r h w piece st pending.
    let pend = c.pending_of.ensures.value in
    let used = c.in_ok-used.field-0.used in
    let cut = c.in_ok-used.field-0.cut in
    let d0 = g.D.Desk.value c.args.desk.now in
    let d1 = g.D.Desk.value c.feed_lane.new.desk in
    let d2 = g.D.Desk.value c.end_lane.new.desk in
    let left : drop used c.pending_of.result.bytes ≡ c.consume.new.self.window.pending = ap (drop used) pend ∙ sym c.consume.ensures.window.pending in
    let r1 = with_rest c.args.side r c.consume.new.self.window.pending in
    let fed = c.in_ok-used.ensures.follows client r h w piece false tt st (pend ∙ pending) in
    let a = subst (λ (xs : List ℕ). FollowsMore c.args.site.now client c.args.moment c.args.side (with_rest c.args.side r xs) h w (record { bytes = piece; ended = false }) c.feed_lane.new.lane c.feed_lane.new.to_client c.feed_lane.new.to_controller cut (told d0) (told d1)) left fed in
    let size : length c.pending_of-2.result.bytes ≡ length (rest_of c.args.side r1) = sym (ap length (rest_of-with c.args.side r c.consume.new.self.window.pending ∙ sym c.pending_of-2.ensures.value)) in
    let b = c.in_err-end_lane.ensures.broken client r1 h w piece a.work (still_uncut a (none_of cut c.if-is_some.ensures)) (c.len-rest.ensures.length ∙ size) in
    let ended : true ≡ c.args.leg.now.window.ended = c.if-not-has_ended.ensures.value ∙ c.consume.ensures.window.ended in
    subst (λ (e : Bool). FollowsAmid c.args.site.now client c.args.moment c.args.side h w (record { bytes = piece; ended = e }) d0 d2) ended
    (amid_behind c.args.site.now client c.args.moment c.args.side h w a.work a.lines (record { bytes = piece; ended = true }) d0 d1 d2 a.log_is a.told c.in_ok-used.ensures.frame.rest b))
