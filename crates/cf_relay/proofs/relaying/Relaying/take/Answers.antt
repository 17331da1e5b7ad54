use Rattle.std.proofs.Common.{rules}
use Rattle.cf_links.specs.LinkValue.{link_value}
use Rattle.cf_relay.proofs.Asked.{heard_within, take_broke, take_lane, take_lane_on, taken}
use Rattle.cf_relay.proofs.relaying.Relaying.take.Goals as goal

pub take_from-requires-clause-little : goal.take_from-requires-clause-little
take_from-requires-clause-little g c = (heard_within c.args.site.now c.args.most c.args.side c.args.self.now c.of_mut.result.now c.requires.sound c.of_mut.ensures.value).0

pub take_from-requires-clause-letters : goal.take_from-requires-clause-letters
take_from-requires-clause-letters g c = (heard_within c.args.site.now c.args.most c.args.side c.args.self.now c.of_mut.result.now c.requires.sound c.of_mut.ensures.value).1

pub returns-in_err-take_from-clause-stops : goal.returns-in_err-take_from-clause-stops
returns-in_err-take_from-clause-stops g c =
    let n = c.take_from.new in
    let e = c.take_from.ensures in
    take_broke c.streams_go_on.ensures.go_on c.streams_go_on.ensures.quiet c.args.directions c.args.site.now c.args.most c.args.side c.args.self.now c.of_mut.result.now n.heard n.lane n.to_client n.to_controller n.idle
    (link_value g.L.Links c.args.session c.args.links.now) (link_value g.L.Links c.args.session n.links) (g.D.Desk.value c.args.desk.now) (g.D.Desk.value n.desk) c.requires.sound c.of_mut.ensures.value e.idles e.log c.take_from.result e.link e.write
    c.from_residual.result c.in_err-take_from.field-0.0 c.from_residual.ensures.1 c.in_err-take_from.was c.in_err-take_from.ensures.takes

pub returns : goal.returns
returns g c =
    let n = c.take_from.new in
    let e = c.take_from.ensures in
    let limit = c.check_limit.ensures in
    let t = taken c.streams_go_on.ensures.go_on c.streams_go_on.ensures.quiet c.args.directions c.args.site.now c.args.most c.args.side c.args.self.now c.of_mut.result.now n.heard n.lane n.to_client n.to_controller n.idle
    (link_value g.L.Links c.args.session c.args.links.now) (link_value g.L.Links c.args.session n.links) (g.D.Desk.value c.args.desk.now) (g.D.Desk.value n.desk) c.requires.sound c.of_mut.ensures.value e.idles e.log c.take_from.result e.link e.write
    c.in_ok-take_from.field-0 c.in_ok-take_from.was c.in_ok-take_from.ensures.takes c.check_limit.result limit.limit limit.short limit.to_client limit.to_controller in
    let l = take_lane_on c.streams_go_on.ensures.go_on c.streams_go_on.ensures.quiet c.args.directions c.args.site.now c.args.most c.args.side c.args.self.now c.of_mut.result.now n.heard n.lane n.to_client n.to_controller n.idle
    (link_value g.L.Links c.args.session c.args.links.now) (link_value g.L.Links c.args.session n.links) (g.D.Desk.value c.args.desk.now) (g.D.Desk.value n.desk) c.requires.sound c.of_mut.ensures.value e.idles e.log c.take_from.result e.link e.write
    c.in_ok-take_from.field-0 c.in_ok-take_from.ensures.takes c.check_limit.result in
    record { place = search rules; goes = t.goes; stops = t.stops; sound = t.sound; moves = t.moves; lane = l; whole = search rules; buffer = search rules }

pub returns-in_err-take_from-clause-lane : goal.returns-in_err-take_from-clause-lane
returns-in_err-take_from-clause-lane g c =
    let n = c.take_from.new in
    let e = c.take_from.ensures in
    take_lane c.streams_go_on.ensures.go_on c.streams_go_on.ensures.quiet c.args.directions c.args.site.now c.args.most c.args.side c.args.self.now c.of_mut.result.now n.heard n.lane n.to_client n.to_controller n.idle
    (link_value g.L.Links c.args.session c.args.links.now) (link_value g.L.Links c.args.session n.links) (g.D.Desk.value c.args.desk.now) (g.D.Desk.value n.desk) c.requires.sound c.of_mut.ensures.value e.idles e.log c.take_from.result e.link e.write
    c.from_residual.result c.in_err-take_from.field-0.0 c.from_residual.ensures.1 c.in_err-take_from.ensures.takes
