use Rattle.std.proofs.Common.{rules}
use Rattle.cf_links.specs.LinkValue.{link_value}
use Rattle.cf_relay.proofs.Serving.{give_broke, served}
use Rattle.cf_relay.proofs.relaying.Relaying.serve.Goals as goal

pub returns-in_err-give_to-clause-stops : goal.returns-in_err-give_to-clause-stops
returns-in_err-give_to-clause-stops g c =
    let n = c.give_to.new in
    let e = c.give_to.ensures in
    give_broke c.args.most c.args.side c.args.self.now c.of_mut-queue.result.now n.queue n.idle (link_value g.L.Links c.args.session c.args.links.now) (link_value g.L.Links c.args.session n.links) c.requires.few c.of_mut-queue.ensures.value e.stands e.idles c.give_to.result e.cause
    c.from_residual.result c.in_err-give_to.field-0.0 c.from_residual.ensures.1 c.in_err-give_to.was c.in_err-give_to.ensures.gave

pub returns : goal.returns
returns g c =
    let n = c.give_to.new in
    let e = c.give_to.ensures in
    let f = c.finish_to.ensures in
    let s = served c.args.most c.args.side c.args.self.now c.of_mut-queue.result.now n.queue n.idle (link_value g.L.Links c.args.session c.args.links.now) (link_value g.L.Links c.args.session n.links) c.requires.few c.of_mut-queue.ensures.value e.stands e.idles c.give_to.result e.cause
    c.in_ok-give_to.field-0 c.in_ok-give_to.was c.in_ok-give_to.ensures.gave
    c.of_mut.result.now c.finish_to.new.finished (link_value g.L.Links c.args.session c.finish_to.new.links) c.of_mut.ensures.value f.idles c.finish_to.result f.finishes f.cause in
    record { place = search rules; goes = s.goes; stops = s.stops; sound = s.sound; moves = s.moves; lane = search rules; buffer = search rules }
