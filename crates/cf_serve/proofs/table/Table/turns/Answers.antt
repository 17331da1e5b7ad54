use Rattle.std.proofs.Common.{ap, arith, false, map, refl, sym, ◌∙◌, ◌≡◌, ◌++◌}
use Rattle.cf_links.specs.Links.{LinksPlace}
use Rattle.cf_serve.proofs.Breaking.{turns_missed}
use Rattle.cf_serve.proofs.Calming.{calm_step, done_all, done_none, done_on, done_step, seats_within}
use Rattle.cf_serve.proofs.Logging.{writes_both, writes_none}
use Rattle.cf_serve.proofs.Numbers.{all_map}
use Rattle.cf_serve.proofs.Passing.{phases_within, turns_passed}
use Rattle.cf_serve.proofs.Rounding.{turns_begin, turns_step}
use Rattle.cf_serve.proofs.Stepping.{on_err}
use Rattle.cf_serve.specs.Phase.{listenings, phase_of}
use Rattle.cf_serve.specs.Table.{AreCalm, seats_of}
use Rattle.cf_serve.specs.declared.door.Lobby.{Lobby}
use Rattle.cf_serve.proofs.table.Table.turns.Goals as goal

pub loop-index-init : goal.loop-index-init
loop-index-init g c =
    let places = listenings c.args.places.now in
    let seats = seats_of (map phase_of c.args.self.now.sessions.items) in
    record {
      table = rw c.next_at-index.ensures.place c.requires.table;
      does = λ past keeps.
          turns_passed _ _ _ _ past _ _ _ _ _ _ _ _ _ c.requires.table.ordered c.requires.table.ordered c.args.self.now.has_new c.requires.calm _ c.next_at-index.ensures.told 0 _ c.next_at-index.ensures.index
          (phases_within c.args.self.now _ c.next_at-index.ensures.within) c.next_at-index.ensures.all (turns_begin _ _ _ _ past _ _ _ _ _ keeps);
      calm = c.requires.calm;
      done = done_on places c.args.self.now.has_new seats 0 _ c.requires.calm c.next_at-index.ensures.all (done_none places seats);
      has_new = refl;
      lobby = refl;
      last = refl;
      round = ap (λ (p : LinksPlace). p.round_faults) c.next_at-index.ensures.place;
      room = refl;
      within = c.next_at-index.ensures.within;
      whole = c.requires.whole;
      log = writes_none _;
      later = omega arith;
      buffer = refl;
    }

pub must_end-again-requires-clause-placed : goal.must_end-again-requires-clause-placed
must_end-again-requires-clause-placed g c = all_map _ _ _ (λ p m. m.placed) c.loop-index.invariant.table.each

pub turn_at-requires-clause-again : goal.turn_at-requires-clause-again
turn_at-requires-clause-again g c = c.must_end-again.ensures

pub loop-index-preserved : goal.loop-index-preserved
loop-index-preserved g c =
    let i = c.loop-index.invariant in
    let places = listenings c.args.places.now in
    let old = seats_of (map phase_of c.loop-index.self.sessions.items) in
    let new = seats_of (map phase_of c.turn_at.new.self.sessions.items) in
    let table = rw (ap (λ (f : Lobby). f.next) (c.turn_at.ensures.lobby ∙ i.lobby)) at c.in_ok-stays.ensures.table in
    let calm : c.turn_at.new.self.has_new ≡ false → AreCalm places new = λ not. calm_step places c.loop-index.index old new c.in_ok-stays.stays c.in_ok-stays.ensures.seats (i.calm (sym c.turn_at.ensures.has_new ∙ not)) in
    let at = c.place_behind.ensures in
    record {
      table = rw c.next_at-index-in-loop-index.ensures.place table;
      does = λ past keeps.
          turns_passed _ _ _ _ past _ _ _ _ _ _ _ _ _ c.requires.table.ordered table.ordered c.turn_at.new.self.has_new calm _ c.next_at-index-in-loop-index.ensures.told _ _
          c.next_at-index-in-loop-index.ensures.index (phases_within c.turn_at.new.self _ c.next_at-index-in-loop-index.ensures.within) c.next_at-index-in-loop-index.ensures.all
          (turns_step _ _ _ _ past _ _ _ _ _ _ _ _ _ _ (i.does past keeps) c.requires.table.ordered i.table.ordered c.loop-index.self.lobby.next _ _ _ _ _ c.in_ok-stays.stays _
          (ap (λ (f : Lobby). f.next) i.lobby) c.in_ok-stays.ensures.does c.place_behind.ensures);
      calm = calm;
      done = done_on places c.turn_at.new.self.has_new new _ _ calm c.next_at-index-in-loop-index.ensures.all
          (rw c.place_behind.ensures (done_step places c.loop-index.index old new c.in_ok-stays.stays c.in_ok-stays.ensures.seats i.done));
      has_new = c.turn_at.ensures.has_new ∙ i.has_new;
      lobby = c.turn_at.ensures.lobby ∙ i.lobby;
      last = c.turn_at.ensures.last ∙ i.last;
      round = ap (λ (p : LinksPlace). p.round_faults) c.next_at-index-in-loop-index.ensures.place ∙ (c.turn_at.ensures.round ∙ i.round);
      room = c.turn_at.ensures.room ∙ i.room;
      within = c.next_at-index-in-loop-index.ensures.within;
      whole = c.in_ok-stays.ensures.whole;
      log = writes_both _ _ _ i.log c.turn_at.ensures.log;
      later = omega (arith, i.later, c.turn_at.ensures.cause.later);
      buffer = c.turn_at.ensures.buffer;
    }

pub returns-clause-calm : goal.returns-clause-calm
returns-clause-calm g c =
    let i = c.loop-index.invariant in
    done_all (listenings c.args.places.now) (seats_of (map phase_of c.loop-index.self.sessions.items)) c.loop-index.index (seats_within c.loop-index.self c.loop-index.index (omega (arith, c.loop-index-test.false))) i.done

pub returns-in_err-stays-clause-breaks : goal.returns-in_err-stays-clause-breaks
returns-in_err-stays-clause-breaks g c =
    let i = c.loop-index.invariant in
    on_err c.from_residual.result _ (λ past keeps.
    let b = i.does past keeps in
    turns_missed _ _ _ _ past _ _ _ _ _ _ _ _ _ _ c.requires.table.ordered i.table.ordered b _ _ _ _
    (c.in_err-stays.ensures.breaks (past ++ b.turns) (rw (ap (λ (f : Lobby). f.next) i.lobby) b.keeps)))
