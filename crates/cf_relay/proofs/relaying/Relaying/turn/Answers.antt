use Rattle.cf_relay.proofs.Moving.{turn_moves}
use Rattle.cf_relay.proofs.Scenes.{goes_stops, goes_then, if_err, on_ok, stops_more}
use Rattle.cf_relay.proofs.Serving.{handed_on, keeps_any, keeps_each, not_ok, whole_any, whole_on}
use Rattle.std.proofs.Common.{◌∙◌}
use Rattle.cf_relay.specs.Relaying.{relaying_value}
use Rattle.cf_relay.proofs.relaying.Relaying.turn.Goals as goal

pub returns-in_err-tell-clause-stops : goal.returns-in_err-tell-clause-stops
returns-in_err-tell-clause-stops g c =
    handed_on c.from_residual.result c.in_err-tell.field-0.0 _ c.from_residual.ensures.1
    (stops_more _ (c.in_err-tell.ensures.stops c.args.site.now c.args.most (g.D.Desk.value c.args.desk.now) c.requires.sound.few))

pub take-requires-clause-sound : goal.take-requires-clause-sound
take-requires-clause-sound g c = c.tell.ensures.sound c.args.site.now c.args.most c.requires.sound

pub returns-in_err-take-clause-stops : goal.returns-in_err-take-clause-stops
returns-in_err-take-clause-stops g c =
    handed_on c.from_residual-in_err-take.result c.in_err-take.field-0.0 _ c.from_residual-in_err-take.ensures.1
    (goes_stops (c.in_ok-tell.ensures.goes c.args.site.now c.args.most (g.D.Desk.value c.args.desk.now) c.requires.sound.few)
    (stops_more _ c.in_err-take.ensures.stops))

pub returns-in_err-take-2-clause-stops : goal.returns-in_err-take-2-clause-stops
returns-in_err-take-2-clause-stops g c =
    handed_on c.from_residual-in_err-take-2.result c.in_err-take-2.field-0.0 _ c.from_residual-in_err-take-2.ensures.1
    (goes_stops (c.in_ok-tell.ensures.goes c.args.site.now c.args.most (g.D.Desk.value c.args.desk.now) c.requires.sound.few)
    (goes_stops c.in_ok-take.ensures.goes (stops_more _ c.in_err-take-2.ensures.stops)))

pub returns-in_err-serve-clause-stops : goal.returns-in_err-serve-clause-stops
returns-in_err-serve-clause-stops g c =
    handed_on c.from_residual-in_err-serve.result c.in_err-serve.field-0.0 _ c.from_residual-in_err-serve.ensures.1
    (goes_stops (c.in_ok-tell.ensures.goes c.args.site.now c.args.most (g.D.Desk.value c.args.desk.now) c.requires.sound.few)
    (goes_stops c.in_ok-take.ensures.goes
    (goes_stops c.in_ok-take-2.ensures.goes
    (stops_more _ (c.in_err-serve.ensures.stops c.args.site.now (g.D.Desk.value c.take-2.new.desk))))))

pub returns-clause-goes : goal.returns-clause-goes
returns-clause-goes g c =
    on_ok c.serve-2.result _ _
    (λ last. goes_then (c.in_ok-tell.ensures.goes c.args.site.now c.args.most (g.D.Desk.value c.args.desk.now) c.requires.sound.few)
    (goes_then c.in_ok-take.ensures.goes (goes_then c.in_ok-take-2.ensures.goes
    (goes_then (c.in_ok-serve.ensures.goes c.args.site.now (g.D.Desk.value c.take-2.new.desk))
    (last c.args.site.now (g.D.Desk.value c.take-2.new.desk))))))
    c.serve-2.ensures.goes

pub returns-clause-stops : goal.returns-clause-stops
returns-clause-stops g c =
    if_err c.serve-2.result _ _
    (λ why last. goes_stops (c.in_ok-tell.ensures.goes c.args.site.now c.args.most (g.D.Desk.value c.args.desk.now) c.requires.sound.few)
    (goes_stops c.in_ok-take.ensures.goes (goes_stops c.in_ok-take-2.ensures.goes
    (goes_stops (c.in_ok-serve.ensures.goes c.args.site.now (g.D.Desk.value c.take-2.new.desk))
    (last c.args.site.now (g.D.Desk.value c.take-2.new.desk))))))
    c.serve-2.ensures.stops

pub returns-clause-moves : goal.returns-clause-moves
returns-clause-moves g c =
    on_ok c.serve-2.result _ _
    (turn_moves c.args.directions c.args.site.now c.requires.within c.args.most _ (relaying_value c.tell.new.self) (relaying_value c.take.new.self) (relaying_value c.take-2.new.self) (relaying_value c.serve.new.self) _ c.tell.ensures.unmoved c.in_ok-take.ensures.moves c.in_ok-take-2.ensures.moves
    c.in_ok-serve.ensures.moves)
    c.serve-2.ensures.moves

pub returns-in_err-tell-clause-lane : goal.returns-in_err-tell-clause-lane
returns-in_err-tell-clause-lane g c =
    handed_on c.from_residual.result c.in_err-tell.field-0.0 _ c.from_residual.ensures.1
    (keeps_any c.args.site.now _ _ _ c.tell.ensures.lane c.requires.sound.of_site)

pub returns-in_err-take-clause-lane : goal.returns-in_err-take-clause-lane
returns-in_err-take-clause-lane g c =
    handed_on c.from_residual-in_err-take.result c.in_err-take.field-0.0 _ c.from_residual-in_err-take.ensures.1 c.in_err-take.ensures.lane

pub returns-in_err-take-2-clause-lane : goal.returns-in_err-take-2-clause-lane
returns-in_err-take-2-clause-lane g c =
    handed_on c.from_residual-in_err-take-2.result c.in_err-take-2.field-0.0 _ c.from_residual-in_err-take-2.ensures.1 c.in_err-take-2.ensures.lane

pub returns-in_err-serve-clause-lane : goal.returns-in_err-serve-clause-lane
returns-in_err-serve-clause-lane g c =
    handed_on c.from_residual-in_err-serve.result c.in_err-serve.field-0.0 _ c.from_residual-in_err-serve.ensures.1
    (keeps_any c.args.site.now _ _ _ c.serve.ensures.lane c.in_ok-take-2.ensures.sound.of_site)

pub returns-clause-lane : goal.returns-clause-lane
returns-clause-lane g c =
    keeps_each c.args.site.now _ _ (c.serve-2.ensures.lane ∙ c.serve.ensures.lane) c.in_ok-take-2.ensures.sound.of_site c.serve-2.result

pub returns-in_err-tell-clause-goes : goal.returns-in_err-tell-clause-goes
returns-in_err-tell-clause-goes g c = not_ok c.from_residual.result c.in_err-tell.field-0.0 _ c.from_residual.ensures.1

pub returns-in_err-tell-clause-sound : goal.returns-in_err-tell-clause-sound
returns-in_err-tell-clause-sound g c = not_ok c.from_residual.result c.in_err-tell.field-0.0 _ c.from_residual.ensures.1

pub returns-in_err-tell-clause-moves : goal.returns-in_err-tell-clause-moves
returns-in_err-tell-clause-moves g c = not_ok c.from_residual.result c.in_err-tell.field-0.0 _ c.from_residual.ensures.1

pub returns-in_err-tell-clause-whole : goal.returns-in_err-tell-clause-whole
returns-in_err-tell-clause-whole g c = whole_any _ _ c.requires.whole

pub returns-in_err-take-clause-goes : goal.returns-in_err-take-clause-goes
returns-in_err-take-clause-goes g c = not_ok c.from_residual-in_err-take.result c.in_err-take.field-0.0 _ c.from_residual-in_err-take.ensures.1

pub returns-in_err-take-clause-sound : goal.returns-in_err-take-clause-sound
returns-in_err-take-clause-sound g c = not_ok c.from_residual-in_err-take.result c.in_err-take.field-0.0 _ c.from_residual-in_err-take.ensures.1

pub returns-in_err-take-clause-moves : goal.returns-in_err-take-clause-moves
returns-in_err-take-clause-moves g c = not_ok c.from_residual-in_err-take.result c.in_err-take.field-0.0 _ c.from_residual-in_err-take.ensures.1

pub returns-in_err-take-clause-whole : goal.returns-in_err-take-clause-whole
returns-in_err-take-clause-whole g c = whole_on c.from_residual-in_err-take.result c.in_err-take.field-0.0 _ c.from_residual-in_err-take.ensures.1 c.in_err-take.ensures.whole

pub returns-in_err-take-2-clause-goes : goal.returns-in_err-take-2-clause-goes
returns-in_err-take-2-clause-goes g c = not_ok c.from_residual-in_err-take-2.result c.in_err-take-2.field-0.0 _ c.from_residual-in_err-take-2.ensures.1

pub returns-in_err-take-2-clause-sound : goal.returns-in_err-take-2-clause-sound
returns-in_err-take-2-clause-sound g c = not_ok c.from_residual-in_err-take-2.result c.in_err-take-2.field-0.0 _ c.from_residual-in_err-take-2.ensures.1

pub returns-in_err-take-2-clause-moves : goal.returns-in_err-take-2-clause-moves
returns-in_err-take-2-clause-moves g c = not_ok c.from_residual-in_err-take-2.result c.in_err-take-2.field-0.0 _ c.from_residual-in_err-take-2.ensures.1

pub returns-in_err-take-2-clause-whole : goal.returns-in_err-take-2-clause-whole
returns-in_err-take-2-clause-whole g c = whole_on c.from_residual-in_err-take-2.result c.in_err-take-2.field-0.0 _ c.from_residual-in_err-take-2.ensures.1 c.in_err-take-2.ensures.whole

pub returns-in_err-serve-clause-goes : goal.returns-in_err-serve-clause-goes
returns-in_err-serve-clause-goes g c = not_ok c.from_residual-in_err-serve.result c.in_err-serve.field-0.0 _ c.from_residual-in_err-serve.ensures.1

pub returns-in_err-serve-clause-sound : goal.returns-in_err-serve-clause-sound
returns-in_err-serve-clause-sound g c = not_ok c.from_residual-in_err-serve.result c.in_err-serve.field-0.0 _ c.from_residual-in_err-serve.ensures.1

pub returns-in_err-serve-clause-moves : goal.returns-in_err-serve-clause-moves
returns-in_err-serve-clause-moves g c = not_ok c.from_residual-in_err-serve.result c.in_err-serve.field-0.0 _ c.from_residual-in_err-serve.ensures.1

pub returns-in_err-serve-clause-whole : goal.returns-in_err-serve-clause-whole
returns-in_err-serve-clause-whole g c = whole_any _ _ c.in_ok-take-2.ensures.whole

pub returns-in_err-tell-clause-place : goal.returns-in_err-tell-clause-place
returns-in_err-tell-clause-place g c = c.tell.ensures.place

pub returns-in_err-tell-clause-buffer : goal.returns-in_err-tell-clause-buffer
returns-in_err-tell-clause-buffer g c = c.requires.buffer

pub returns-in_err-take-clause-place : goal.returns-in_err-take-clause-place
returns-in_err-take-clause-place g c = c.take.ensures.place ∙ c.tell.ensures.place

pub returns-in_err-take-clause-buffer : goal.returns-in_err-take-clause-buffer
returns-in_err-take-clause-buffer g c = c.take.ensures.buffer

pub returns-in_err-take-2-clause-place : goal.returns-in_err-take-2-clause-place
returns-in_err-take-2-clause-place g c = c.take-2.ensures.place ∙ c.take.ensures.place ∙ c.tell.ensures.place

pub returns-in_err-take-2-clause-buffer : goal.returns-in_err-take-2-clause-buffer
returns-in_err-take-2-clause-buffer g c = c.take-2.ensures.buffer

pub returns-in_err-serve-clause-place : goal.returns-in_err-serve-clause-place
returns-in_err-serve-clause-place g c = c.serve.ensures.place ∙ c.take-2.ensures.place ∙ c.take.ensures.place ∙ c.tell.ensures.place

pub returns-in_err-serve-clause-buffer : goal.returns-in_err-serve-clause-buffer
returns-in_err-serve-clause-buffer g c = c.serve.ensures.buffer

pub returns-clause-place : goal.returns-clause-place
returns-clause-place g c = c.serve-2.ensures.place ∙ c.serve.ensures.place ∙ c.take-2.ensures.place ∙ c.take.ensures.place ∙ c.tell.ensures.place

pub returns-clause-buffer : goal.returns-clause-buffer
returns-clause-buffer g c = c.serve-2.ensures.buffer

pub returns-clause-whole : goal.returns-clause-whole
returns-clause-whole g c = whole_any _ _ c.in_ok-take-2.ensures.whole

pub returns-clause-sound : goal.returns-clause-sound
returns-clause-sound g c =
    on_ok c.serve-2.result _ _ (λ last. last c.args.site.now (c.in_ok-serve.ensures.sound c.args.site.now c.in_ok-take-2.ensures.sound)) c.serve-2.ensures.sound
