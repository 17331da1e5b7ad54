use Rattle.std.proofs.Common.{List, Option, false, map, true, ℕ, ◌≡◌, ◌≤◌}
use Rattle.std.specs.Prelude.{vec_capacity}
use Rattle.cf_lane.specs.Handled.{WritesLog}
use Rattle.cf_links.specs.Links.{LinksPlace}
use Rattle.cf_serve.specs.Phase.{listenings, phase_of}
use Rattle.cf_serve.specs.Rounds.{TurnOf}
use Rattle.cf_serve.specs.Table.{AreCalm, IsMinuteOf, IsTable, Keeps, RoundsDo, seats_of}
use Rattle.cf_serve.proofs.table.Table.rounds.Given as goal

abbrev pub invariant-loop-made : goal.invariant-loop-made
invariant-loop-made g l =
    record {
      table : IsTable (listenings l.fn.places) l.fn.most l.self.keeping (LinksPlace.serves (g.L.Links.place l.links)) l.self.lobby.next (map phase_of l.self.sessions.items);
      does : (past : List TurnOf) → Keeps (listenings l.fn.places) l.fn.most l.fn.self.keeping l.fn.self.lobby.next past (map phase_of l.fn.self.sessions.items) →
          (last : Option ℕ) → IsMinuteOf l.fn.self.minutes last past →
          RoundsDo l.fn.places l.fn.most l.self.keeping l.fn.self.lobby l.self.lobby l.self.minutes last l._made past (g.L.Links.told l.fn.links) (g.L.Links.told l.links)
          (g.D.Desk.value l.fn.desk).lines (g.D.Desk.value l.desk).lines (map phase_of l.fn.self.sessions.items) (map phase_of l.self.sessions.items);
      calm : l.self.has_new ≡ false → AreCalm (listenings l.fn.places) (seats_of (map phase_of l.self.sessions.items));
      round : LinksPlace.round_faults (g.L.Links.place l.links) ≡ LinksPlace.round_faults (g.L.Links.place l.fn.links);
      room : vec_capacity l.fn.self.sessions ≤ vec_capacity l.self.sessions;
      whole : (g.D.Desk.value l.desk).whole ≡ true;
      log : WritesLog (g.D.Desk.value l.fn.desk) (g.D.Desk.value l.desk);
      later : (g.D.Desk.value l.fn.desk).faults ≤ (g.D.Desk.value l.desk).faults;
    }
