use Rattle.cf_lane.specs.Caller.{none_before}
use Rattle.std.proofs.Common.{[], ◌∷◌, ◌++◌, Some, None, true, false, ap, ◌∙◌, subst}
use Rattle.cf_lane.specs.Handled.{LaneValue, state}
use Rattle.cf_session.proofs.Lanes.{as_ended, follows_of, more_of}
use Rattle.cf_session.specs.Work.{fed_at}
use Rattle.cf_lane.specs.Follows.{Began}
use Rattle.cf_lane.specs.History.{end_at}
use Rattle.cf_session.proofs.LanesAmid.{ended_amid}
use Rattle.cf_session.proofs.Amid.{on_err}
use Rattle.cf_session.proofs.handing.end_lane.Goals as goal

pub returns-clause-follows : goal.returns-clause-follows
returns-clause-follows g c = λ client r h w piece middle st size.
    let site = c.args.site.now in
    let s = c.args.side in
    let x = c.in_ok-ended.ensures.apart none_before (h ++ fed_at c.args.moment s (record { bytes = piece; ended = false })) r (Some []) (Some middle.log) size (follows_of st) in
    let f = as_ended c.pieces_join.ensures.nothing c.pieces_join.ensures.ends site c.args.moment s h r None (Some []) (state c.ended.new.self c.ended.new.to_client c.ended.new.to_controller (Some (middle.log ++ x.more))) piece x.follows in
    more_of site client c.args.moment s r h middle (record { bytes = piece; ended = true }) c.ended.new.self c.ended.new.to_client c.ended.new.to_controller None (g.D.Desk.value c.args.desk.now) (g.D.Desk.value c.ended.new.desk) x.more
    (ap (λ (l : LaneValue). l.client) c.ended.ensures.lane ∙ st.lane_stands.is_client) f c.ended.ensures.log.packets x.added

pub returns-in_err-ended-clause-broken : goal.returns-in_err-ended-clause-broken
returns-in_err-ended-clause-broken g c =
    on_err c.from_residual.result (λ client r h w piece middle st size.
    let site = c.args.site.now in
    let d1 = g.D.Desk.value c.ended.new.desk in
    let h1 = h ++ fed_at c.args.moment c.args.side (record { bytes = piece; ended = false }) in
    let x = c.in_err-ended.ensures.fails_apart none_before h1 r (Some []) (Some middle.log) size (follows_of st) in
    let began = subst (λ e. Began site none_before e (h1 ++ end_at c.args.moment c.args.side ∷ []) (Some []) (Some (middle.log ++ x.more)) d1.line_part) st.lane_stands.is_client x.began in
    ended_amid c.pieces_join.ensures.nothing c.pieces_join.ensures.judged site client c.args.moment c.args.side h middle piece (g.D.Desk.value c.args.desk.now) d1 x.more
    c.ended.ensures.log.packets c.ended.ensures.log.packet_part x.added began)
