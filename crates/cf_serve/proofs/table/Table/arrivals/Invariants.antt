use Rattle.std.proofs.Common.{ℕ, false, map, true, ◌≡◌, ◌≤◌}
use Rattle.std.specs.Prelude.{vec_capacity}
use Rattle.cf_lane.specs.Handled.{WritesLog}
use Rattle.cf_links.specs.Links.{LinksPlace}
use Rattle.cf_serve.specs.Phase.{listenings, phase_of}
use Rattle.cf_serve.specs.Table.{AreCalm, Arrive, IsTable, seats_of}
use Rattle.cf_serve.proofs.table.Table.arrivals.Given as goal

abbrev pub invariant-loop-place : goal.invariant-loop-place
invariant-loop-place g l =
    record {
      free : (session : ℕ) → l.self.lobby.next ≤ session → LinksPlace.serves (g.L.Links.place l.links) session ≡ false;
      table : (most : ℕ) → IsTable (listenings l.fn.places) most l.fn.self.keeping (LinksPlace.serves (g.L.Links.place l.fn.links)) l.fn.self.lobby.next (map phase_of l.fn.self.sessions.items) →
          IsTable (listenings l.fn.places) most l.self.keeping (LinksPlace.serves (g.L.Links.place l.links)) l.self.lobby.next (map phase_of l.self.sessions.items);
      does : (most : ℕ) → Arrive (listenings l.fn.places) most l.fn.moment 0 l.place l.fn.self.lobby l.self.lobby (g.L.Links.told l.fn.links) (g.L.Links.told l.links)
          (g.D.Desk.value l.fn.desk).lines (g.D.Desk.value l.desk).lines (map phase_of l.fn.self.sessions.items) (map phase_of l.self.sessions.items);
      calm : (l.fn.self.has_new ≡ false → AreCalm (listenings l.fn.places) (seats_of (map phase_of l.fn.self.sessions.items))) → l.self.has_new ≡ false →
          AreCalm (listenings l.fn.places) (seats_of (map phase_of l.self.sessions.items));
      keeping : l.self.keeping ≡ l.fn.self.keeping;
      minutes : l.self.minutes ≡ l.fn.self.minutes;
      round : LinksPlace.round_faults (g.L.Links.place l.links) ≡ LinksPlace.round_faults (g.L.Links.place l.fn.links);
      room : vec_capacity l.fn.self.sessions ≤ vec_capacity l.self.sessions;
      whole : (g.D.Desk.value l.desk).whole ≡ true;
      log : WritesLog (g.D.Desk.value l.fn.desk) (g.D.Desk.value l.desk);
      later : (g.D.Desk.value l.fn.desk).faults ≤ (g.D.Desk.value l.desk).faults;
    }
