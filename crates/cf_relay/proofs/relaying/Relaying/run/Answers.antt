use Rattle.std.proofs.Common.{refl, suc, ◌∙◌}
use Rattle.cf_relay.proofs.Moving.{goes_nearer, not_both}
use Rattle.cf_relay.proofs.Scenes.{goes_none, goes_stops, goes_then}
use Rattle.cf_relay.proofs.Serving.{handed_on}
use Rattle.cf_relay.specs.Relaying.{relaying_value}
use Rattle.cf_relay.proofs.relaying.Relaying.run.Goals as goal

pub turns-init : goal.turns-init
turns-init g c = record { count = 0; goes = goes_none _ _ _; place = refl; sound = c.requires.sound; still = c.requires.still; whole = c.requires.whole; buffer = c.requires.buffer }

pub returns-in_err-turn-clause-stops : goal.returns-in_err-turn-clause-stops
returns-in_err-turn-clause-stops g c =
    handed_on c.from_residual.result c.in_err-turn.field-0.0 _ c.from_residual.ensures.1 (
      suc c.turns.invariant.count,
      goes_stops c.turns.invariant.goes c.in_err-turn.ensures.stops,
    )

pub returns-then-is_closed-clause-goes : goal.returns-then-is_closed-clause-goes
returns-then-is_closed-clause-goes g c = (
  suc c.turns.invariant.count,
  goes_then c.turns.invariant.goes c.in_ok-turn.ensures.goes,
)

pub turns-smaller : goal.turns-smaller
turns-smaller g c =
    goes_nearer c.args.site.now c.args.most (relaying_value c.turns.self) (relaying_value c.turn.new.self) c.in_ok-turn.ensures.sound c.in_ok-turn.ensures.moves
    (λ closed. not_both c.is_closed.result c.if-is_closed.false (c.is_closed.ensures.1 closed))

pub turns-preserved : goal.turns-preserved
turns-preserved g c = record {
  count = suc c.turns.invariant.count;
  goes = goes_then c.turns.invariant.goes c.in_ok-turn.ensures.goes;
  place = c.turn.ensures.place ∙ c.turns.invariant.place;
  sound = c.in_ok-turn.ensures.sound;
  still = λ closed. not_both c.is_closed.result c.if-is_closed.false (c.is_closed.ensures.1 closed);
  whole = c.in_ok-turn.ensures.whole;
  buffer = c.turn.ensures.buffer;
}
