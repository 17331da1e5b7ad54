use Rattle.cf_relay.specs.declared.limit.TheConstants.{MOST_BYTES}
use Rattle.std.proofs.Common.{List, false, length, map, true, ◌≡◌, ◌≤◌, ◌-◌}
use Rattle.std.specs.Prelude.{vec_capacity, vec_len}
use Rattle.cf_lane.specs.Handled.{WritesLog}
use Rattle.cf_links.specs.Links.{LinksPlace}
use Rattle.cf_serve.specs.Phase.{listenings, phase_of}
use Rattle.cf_serve.specs.Rounds.{TurnOf}
use Rattle.cf_serve.proofs.Calming.{Done}
use Rattle.cf_serve.specs.Table.{AreCalm, IsTable, Keeps, TurnsBegin, seats_of}
use Rattle.cf_serve.proofs.table.Table.turns.Given as goal

abbrev pub invariant-loop-index : goal.invariant-loop-index
invariant-loop-index g l =
    record {
      table : IsTable (listenings l.fn.places) l.fn.most l.self.keeping (LinksPlace.serves (g.L.Links.place l.links)) l.fn.self.lobby.next (map phase_of l.self.sessions.items);
      does : (past : List TurnOf) → Keeps (listenings l.fn.places) l.fn.most l.fn.self.keeping l.fn.self.lobby.next past (map phase_of l.fn.self.sessions.items) →
          TurnsBegin (listenings l.fn.places) l.fn.most l.self.keeping l.fn.self.lobby.next l.fn.moment past l.index (g.L.Links.told l.fn.links) (g.L.Links.told l.links)
          (g.D.Desk.value l.fn.desk).lines (g.D.Desk.value l.desk).lines l.fn.self.minutes.tallies l.self.minutes.tallies (map phase_of l.fn.self.sessions.items) (map phase_of l.self.sessions.items);
      calm : l.self.has_new ≡ false → AreCalm (listenings l.fn.places) (seats_of (map phase_of l.self.sessions.items));
      done : Done (listenings l.fn.places) (seats_of (map phase_of l.self.sessions.items)) l.index;
      has_new : l.self.has_new ≡ l.fn.self.has_new;
      lobby : l.self.lobby ≡ l.fn.self.lobby;
      last : l.self.minutes.last ≡ l.fn.self.minutes.last;
      round : LinksPlace.round_faults (g.L.Links.place l.links) ≡ LinksPlace.round_faults (g.L.Links.place l.fn.links);
      room : vec_capacity l.self.sessions ≡ vec_capacity l.fn.self.sessions;
      within : l.index ≤ vec_len l.self.sessions;
      whole : (g.D.Desk.value l.desk).whole ≡ true;
      log : WritesLog (g.D.Desk.value l.fn.desk) (g.D.Desk.value l.desk);
      later : (g.D.Desk.value l.fn.desk).faults ≤ (g.D.Desk.value l.desk).faults;
      buffer : length l.buf ≡ MOST_BYTES;
    }

abbrev pub decreases-loop-index : goal.decreases-loop-index
decreases-loop-index g l = vec_len l.self.sessions - l.index
