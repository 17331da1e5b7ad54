use Rattle.std.proofs.Common.{map, subst, ◌<◌, ◌∙◌, ◌≡◌}
use Rattle.std.proofs.lemmas.List.{length-map}
use Rattle.std.proofs.lemmas.Option.{same_Some}
use Rattle.cf_serve.proofs.Calming.{came_is}
use Rattle.cf_serve.proofs.Placing.{all_at, phase_at, slice_at}
use Rattle.cf_serve.specs.Phase.{Phase, listening_at, listenings, phase_of}
use Rattle.cf_serve.specs.Rounds.{must_end}
use Rattle.cf_serve.specs.Table.{seats_of}
use Rattle.cf_serve.specs.declared.session.Served.{Served}
use Rattle.std.proofs.Common.{length, sym}
use Rattle.cf_serve.proofs.table.Table.must_end.Goals as goal

pub place_of-place-requires-clause-number : goal.place_of-place-requires-clause-number
place_of-place-requires-clause-number c =
    let xs = c.args.self.now.sessions.items in
    let x = c.index-served.result.now in
    subst (λ n. x.place < n) (length-map c.args.places.now listening_at)
    (all_at (λ (p : Phase). p.seat.place < length (listenings c.args.places.now)) (map phase_of xs) c.args.index (phase_of x)
    (phase_at xs c.args.index x (slice_at xs c.args.index x c.requires.index c.index-served.ensures)) c.requires.placed)

pub returns : goal.returns
returns c = λ served is.
    let xs = c.args.self.now.sessions.items in
    let x = c.index-served.result.now in
    let there = slice_at xs c.args.index x c.requires.index c.index-served.ensures in
    subst (λ (z : Served). c.came_again.result ≡ must_end (listenings c.args.places.now) (seats_of (map phase_of xs)) (phase_of z).seat) (same_Some x served (sym there ∙ is))
    (c.came_again.ensures ∙ came_is (listenings c.args.places.now) xs c.args.index x c.args.self.now.has_new (listening_at c.place_of-place.result.now) there c.place_of-place.ensures.place c.requires.calm)
