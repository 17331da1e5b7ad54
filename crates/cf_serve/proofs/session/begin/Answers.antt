use Rattle.std.proofs.Common.{◌∷◌, []}
use Rattle.cf_links.specs.LinkValue.{told_of}
use Rattle.cf_outside.specs.Pair.{Moment, met_at}
use Rattle.cf_serve.proofs.Missing.{then_missed}
use Rattle.cf_serve.proofs.Reaching.{missed_any, missed_told, reached_any, reached_told, then_reached}
use Rattle.cf_serve.specs.Phase.{listening_of, rings_for}
use Rattle.cf_serve.proofs.session.begin.Goals as goal

pub returns-in-None-clause-does : goal.returns-in-None-clause-does
returns-in-None-clause-does g c =
    reached_any (listening_of c.args.terms.now) c.args.terms.now.most (met_at c.args.terms.now.port c.args.terms.now.site.now.first.endpoint c.args.met ∷ [])
    _ _ c.lose.result c.lose.ensures.does (rings_for c.args.terms.now.site.now c.args.keeping.now c.args.terms.now.place c.args.client.address) c.args.client
    (told_of g.L.Links c.args.session c.args.links.now) (told_of g.L.Links c.args.session c.first_moment.new.links) (c.first_moment.ensures.none c.in-None.is)

pub returns-in-None-clause-breaks : goal.returns-in-None-clause-breaks
returns-in-None-clause-breaks g c =
    missed_any (listening_of c.args.terms.now) c.args.terms.now.most (met_at c.args.terms.now.port c.args.terms.now.site.now.first.endpoint c.args.met ∷ [])
    _ _ c.lose.result _ c.lose.ensures.breaks c.args.client
    (told_of g.L.Links c.args.session c.args.links.now) (told_of g.L.Links c.args.session c.first_moment.new.links) (c.first_moment.ensures.none c.in-None.is)

pub returns-in-Some-clause-does : goal.returns-in-Some-clause-does
returns-in-Some-clause-does g c =
    then_reached (listening_of c.args.terms.now) c.args.terms.now.most c.args.client c.args.session (g.L.Links.told c.args.links.now)
    (told_of g.L.Links c.args.session c.first_moment.new.links) _ _ (rings_for c.args.terms.now.site.now c.args.keeping.now c.args.terms.now.place c.args.client.address)
    (met_at c.args.terms.now.port c.args.terms.now.site.now.first.endpoint c.args.met ∷ []) (told_of g.L.Links c.args.session c.first_moment.new.links)
    (Moment c.in-Some.moment) c.open_relay.result c.in-Some.ensures.moment
    (reached_told (listening_of c.args.terms.now) c.args.terms.now.most (met_at c.args.terms.now.port c.args.terms.now.site.now.first.endpoint c.args.met ∷ Moment c.in-Some.moment ∷ [])
    _ _ c.open_relay.result (rings_for c.args.terms.now.site.now c.args.keeping.now c.args.terms.now.place c.args.client.address) c.args.client c.open_relay.ensures.does
    (told_of g.L.Links c.args.session c.first_moment.new.links))

pub returns-in-Some-clause-breaks : goal.returns-in-Some-clause-breaks
returns-in-Some-clause-breaks g c =
    then_missed (listening_of c.args.terms.now) c.args.terms.now.most c.args.client c.args.session (g.L.Links.told c.args.links.now)
    (told_of g.L.Links c.args.session c.first_moment.new.links) _ _ _
    (met_at c.args.terms.now.port c.args.terms.now.site.now.first.endpoint c.args.met ∷ []) (told_of g.L.Links c.args.session c.first_moment.new.links)
    (Moment c.in-Some.moment) c.open_relay.result c.in-Some.ensures.moment
    (missed_told (listening_of c.args.terms.now) c.args.terms.now.most (met_at c.args.terms.now.port c.args.terms.now.site.now.first.endpoint c.args.met ∷ Moment c.in-Some.moment ∷ [])
    _ _ c.open_relay.result _ c.args.client c.open_relay.ensures.breaks (told_of g.L.Links c.args.session c.first_moment.new.links))
