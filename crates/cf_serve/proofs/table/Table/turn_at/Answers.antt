use Rattle.std.proofs.Common.{ap, refl, subst, sym, ◌<◌, ◌∙◌}
use Rattle.std.proofs.lemmas.List.{length-map}
use Rattle.cf_links.specs.Links.{LinksPlace}
use Rattle.cf_serve.proofs.Breaking.{step_missed}
use Rattle.cf_serve.proofs.Placing.{phases_at, removed_is, slice_at}
use Rattle.cf_serve.proofs.Storing.{fits_for, within_all}
use Rattle.cf_serve.proofs.Tallying.{few_of, tallies_are}
use Rattle.cf_serve.proofs.Stepping.{at_place, back_now, begins_with, fits_now, fits_then, found, its_lent, its_lent_at, lasts_now, lasts_then, leave_it, may_go, now_before, on_err, others_now, seats_end, seats_stay}
use Rattle.cf_serve.proofs.Stepping.{stands_now, step_ends, step_stays, stood, table_ends, table_stays}
use Rattle.cf_serve.specs.Kept.{before_in}
use Rattle.cf_serve.specs.Phase.{HasLane, HasLent, MayTurn, listening_at, listenings, phase_of}
use Rattle.cf_serve.specs.Session.{Listening}
use Rattle.cf_serve.specs.declared.session.Served.{Served}
use Rattle.cf_serve.proofs.table.Table.turn_at.Goals as goal

pub place_of-place-requires-clause-number : goal.place_of-place-requires-clause-number
place_of-place-requires-clause-number g c =
    let s = phases_at _ _ _ c.requires.index c.index_mut-served.ensures.value in
    subst (λ n. c.index_mut-served.result.now.place < n) (length-map c.args.places.now listening_at) (may_go s c.requires.table).placed

pub turn_one-requires-clause-serves : goal.turn_one-requires-clause-serves
turn_one-requires-clause-serves g c = (may_go (phases_at _ _ _ c.requires.index c.index_mut-served.ensures.value) c.requires.table).served

pub turn_one-requires-clause-may : goal.turn_one-requires-clause-may
turn_one-requires-clause-may g c =
    (may_go (phases_at _ _ _ c.requires.index c.index_mut-served.ensures.value) c.requires.table).may (listening_at c.place_of-place.result.now) c.place_of-place.ensures.place

pub turn_one-requires-clause-fits : goal.turn_one-requires-clause-fits
turn_one-requires-clause-fits g c =
    fits_for (listenings c.args.places.now) c.args.self.now.keeping c.requires.table.fits c.index_mut-served.result.now.place c.index_mut-served.result.now.client.address
    (listening_at c.place_of-place.result.now) c.place_of-place.ensures.place

pub add-requires : goal.add-requires
add-requires g c =
    few_of (listenings c.args.places.now) c.args.places.now _ (length-map c.args.places.now listening_at)
    (may_go (phases_at _ _ _ c.requires.index c.index_mut-served.ensures.value) c.requires.table).placed c.requires.few

pub keep_rings-requires-clause-lent : goal.keep_rings-requires-clause-lent
keep_rings-requires-clause-lent g c =
    let s = phases_at _ _ _ c.requires.index c.index_mut-served.ensures.value in
    let gone = removed_is _ _ c.turn_one.new.served _ c.requires.index c.remove-served.ensures.value ∙ c.turn_one.ensures.same in
    subst (λ (z : Served). HasLent c.place_of-place.result.now.site c.turn_one.new.keeping (phase_of z).seat (phase_of z).linked) (sym gone)
    (its_lent s c.requires.table c.place_of-place.ensures.place c.turn_one.new.served c.in_ok-stays.ensures.keeps)

pub keep_rings-requires-clause-lane : goal.keep_rings-requires-clause-lane
keep_rings-requires-clause-lane g c =
    subst (λ (z : Served). HasLane c.place_of-place.result.now.site (phase_of z).linked) (sym (removed_is _ _ c.turn_one.new.served _ c.requires.index c.remove-served.ensures.value))
    c.in_ok-stays.ensures.keeps.lane

pub returns-else-not-stays-clause-table : goal.returns-else-not-stays-clause-table
returns-else-not-stays-clause-table g c =
    let s = phases_at _ _ _ c.requires.index c.index_mut-served.ensures.value in
    let k = c.in_ok-stays.ensures.keeps in
    let y = c.turn_one.new.served in
    let at = c.place_of-place.ensures.place in
    table_stays s c.requires.table y c.turn_one.ensures.same (g.L.Links.place c.args.links.now) (g.L.Links.place c.turn_one.new.links) c.in_ok-stays.stays refl
    c.if-not-stays.false c.in_ok-stays.ensures.place
    (at_place (listenings c.args.places.now) c.index_mut-served.result.now.place (listening_at c.place_of-place.result.now) at (λ (o : Listening). MayTurn o c.args.most (phase_of y).linked)
    (c.in_ok-stays.ensures.may c.if-not-stays.false))
    c.turn_one.new.keeping (fits_now s c.requires.table at y k) (lasts_now s c.requires.table at y k) (its_lent_at s c.requires.table at y k)

pub returns-then-not-stays-clause-table : goal.returns-then-not-stays-clause-table
returns-then-not-stays-clause-table g c =
    let s = phases_at _ _ _ c.requires.index c.index_mut-served.ensures.value in
    let k = c.in_ok-stays.ensures.keeps in
    let y = c.turn_one.new.served in
    let at = c.place_of-place.ensures.place in
    let gone = removed_is _ _ y _ c.requires.index c.remove-served.ensures.value ∙ c.turn_one.ensures.same in
    table_ends s c.requires.table y _ (g.L.Links.place c.args.links.now) (g.L.Links.place c.turn_one.new.links) c.in_ok-stays.stays c.remove-served.ensures.items refl
    c.if-not-stays.true c.in_ok-stays.ensures.place c.keep_rings.new.keeping
    (fits_then s c.requires.table at y k c.remove-served.result gone c.keep_rings.new.keeping c.keep_rings.ensures.others c.keep_rings.ensures.own)
    (lasts_then s c.requires.table at y k c.remove-served.result gone c.keep_rings.new.keeping c.keep_rings.ensures.others c.keep_rings.ensures.own)

pub returns-else-not-stays-clause-seats : goal.returns-else-not-stays-clause-seats
returns-else-not-stays-clause-seats g c =
    let s = phases_at _ _ _ c.requires.index c.index_mut-served.ensures.value in
    let x = c.index_mut-served.result.now in
    seats_stay s c.requires.table c.args.again (c.requires.again x (slice_at _ _ x c.requires.index c.index_mut-served.ensures.value)) c.turn_one.new.served c.turn_one.ensures.same
    c.in_ok-stays.stays c.if-not-stays.false c.in_ok-stays.ensures.over

pub returns-then-not-stays-clause-seats : goal.returns-then-not-stays-clause-seats
returns-then-not-stays-clause-seats g c =
    let s = phases_at _ _ _ c.requires.index c.index_mut-served.ensures.value in
    let x = c.index_mut-served.result.now in
    seats_end s c.requires.table c.args.again (c.requires.again x (slice_at _ _ x c.requires.index c.index_mut-served.ensures.value)) c.turn_one.new.served _ c.remove-served.ensures.items
    c.in_ok-stays.stays c.if-not-stays.true

pub returns-else-not-stays-clause-does : goal.returns-else-not-stays-clause-does
returns-else-not-stays-clause-does g c = λ past keeps.
    let s = phases_at _ _ _ c.requires.index c.index_mut-served.ensures.value in
    let x = c.index_mut-served.result.now in
    let y = c.turn_one.new.served in
    let at = c.place_of-place.ensures.place in
    let new = (phase_of y).linked in
    step_stays s c.requires.table keeps at y c.in_ok-stays.stays c.in_ok-stays.ensures.keeps
    (c.in_ok-stays.ensures.does (now_before s c.requires.table keeps at new) (found s c.requires.table keeps at) _ _ (begins_with s c.requires.table keeps at new) (stands_now s c.requires.table keeps at new))
    (within_all c.args.places.now c.requires.within) (c.requires.again x (slice_at _ _ x c.requires.index c.index_mut-served.ensures.value)) _ _
    (few_of (listenings c.args.places.now) c.args.places.now _ (length-map c.args.places.now listening_at) (may_go s c.requires.table).placed c.requires.few)
    (tallies_are _ _ _ _ _ _ _ c.add.ensures c.counts-before.ensures c.counts-after.ensures) c.turn_one.ensures.same c.if-not-stays.false

pub returns-then-not-stays-clause-does : goal.returns-then-not-stays-clause-does
returns-then-not-stays-clause-does g c = λ past keeps.
    let s = phases_at _ _ _ c.requires.index c.index_mut-served.ensures.value in
    let x = c.index_mut-served.result.now in
    let y = c.turn_one.new.served in
    let at = c.place_of-place.ensures.place in
    let new = (phase_of y).linked in
    let k = c.in_ok-stays.ensures.keeps in
    let gone = removed_is _ _ y _ c.requires.index c.remove-served.ensures.value ∙ c.turn_one.ensures.same in
    step_ends s c.requires.table keeps at y c.in_ok-stays.stays k
    (c.in_ok-stays.ensures.does (now_before s c.requires.table keeps at new) (found s c.requires.table keeps at) _ _ (begins_with s c.requires.table keeps at new) (stands_now s c.requires.table keeps at new))
    (within_all c.args.places.now c.requires.within) (c.requires.again x (slice_at _ _ x c.requires.index c.index_mut-served.ensures.value)) _ _
    (few_of (listenings c.args.places.now) c.args.places.now _ (length-map c.args.places.now listening_at) (may_go s c.requires.table).placed c.requires.few)
    (tallies_are _ _ _ _ _ _ _ c.add.ensures c.counts-before.ensures c.counts-after.ensures) _ c.remove-served.ensures.items c.if-not-stays.true c.keep_rings.new.keeping
    (others_now s c.requires.table at y k c.remove-served.result gone c.keep_rings.new.keeping c.keep_rings.ensures.others c.keep_rings.ensures.own)
    (back_now s c.requires.table at y k c.remove-served.result gone c.keep_rings.new.keeping c.keep_rings.ensures.others c.keep_rings.ensures.own)

pub returns-in_err-stays-clause-leave : goal.returns-in_err-stays-clause-leave
returns-in_err-stays-clause-leave g c =
    on_err c.from_residual.result _
    (leave_it (phases_at _ _ _ c.requires.index c.index_mut-served.ensures.value) c.requires.table c.turn_one.new.served c.turn_one.ensures.same
    (LinksPlace.serves (g.L.Links.place c.turn_one.new.links)) (ap (λ (p : LinksPlace). p.serves) c.in_err-stays.ensures.served))

pub returns-in_err-stays-clause-breaks : goal.returns-in_err-stays-clause-breaks
returns-in_err-stays-clause-breaks g c = on_err c.from_residual.result _ (λ past keeps.
    let s = phases_at _ _ _ c.requires.index c.index_mut-served.ensures.value in
    let x = c.index_mut-served.result.now in
    step_missed s c.requires.table keeps c.place_of-place.ensures.place
    (c.in_err-stays.ensures.breaks (before_in x.number past) _ _ (stood s c.requires.table keeps c.place_of-place.ensures.place)) c.turn_one.new.served c.turn_one.ensures.same
    (c.requires.again x (slice_at _ _ x c.requires.index c.index_mut-served.ensures.value)))
