use Rattle.cf_lane.specs.Caller.{none_before}
use Rattle.std.proofs.Common.{[], ◌++◌, Some, ◌∙◌, arith, drop, subst}
use Rattle.cf_driver.proofs.Limits.{owed_most}
use Rattle.cf_lane.specs.Handled.{state}
use Rattle.cf_view.specs.Octets.{IsOctets}
use Rattle.cf_session.proofs.Lanes.{as_fed, follows_of, more_of}
use Rattle.cf_lane.specs.Follows.{BeganWithin, rest_of, with_rest}
use Rattle.cf_session.proofs.LanesAmid.{fed_amid}
use Rattle.cf_session.proofs.Amid.{on_err}
use Rattle.cf_session.proofs.handing.feed_lane.Goals as goal

pub returns-clause-follows : goal.returns-clause-follows
returns-clause-follows g c = λ client r h w piece ended behind st pending.
    let site = c.args.site.now in
    let now = c.args.moment in
    let s = c.args.side in
    let fed = c.in_ok-fed.fed in
    let x = c.in_ok-fed.ensures.apart none_before h r (Some []) (Some w.log) piece ended behind pending (follows_of st) in
    let r1 = with_rest s r (drop fed.used c.args.bytes.bytes) in
    let f = as_fed c.pieces_join.ensures.nothing c.pieces_join.ensures.ends site now s h r1 fed.cut (Some []) (state c.feed.new.self c.feed.new.to_client c.feed.new.to_controller (Some (w.log ++ x.more))) piece ended x.follows in
    more_of site client now s r1 h w (record { bytes = piece; ended = ended }) c.feed.new.self c.feed.new.to_client c.feed.new.to_controller fed.cut (g.D.Desk.value c.args.desk.now) (g.D.Desk.value c.feed.new.desk) x.more
    (c.in_ok-fed.ensures.client ∙ st.lane_stands.is_client) f c.feed.ensures.log.packets x.added

pub returns-clause-debt : goal.returns-clause-debt
returns-clause-debt g c = omega (arith, c.in_ok-fed.ensures.debt, owed_most c.args.site.now c.requires.within)

pub returns-in_err-fed-clause-broken : goal.returns-in_err-fed-clause-broken
returns-in_err-fed-clause-broken g c =
    on_err c.from_residual.result (λ client r h w piece ended st pending.
    let d1 = g.D.Desk.value c.feed.new.desk in
    let x = c.in_err-fed.ensures.fails_apart none_before h r (Some []) (Some w.log) piece pending (follows_of st) in
    let began = subst (λ e. BeganWithin c.args.site.now none_before e h c.args.moment c.args.side piece (Some []) (Some (w.log ++ x.more)) d1.line_part) st.lane_stands.is_client x.began in
    fed_amid c.pieces_join.ensures.nothing c.pieces_join.ensures.judged c.judgements_go_on.ensures c.streams_go_on.ensures.go_on c.args.site.now client c.args.moment c.args.side h w (rest_of c.args.side r) piece ended (g.D.Desk.value c.args.desk.now) d1 x.more
    (subst IsOctets pending c.len-len.ensures.octets) c.feed.ensures.log.packets c.feed.ensures.log.packet_part x.added began)
