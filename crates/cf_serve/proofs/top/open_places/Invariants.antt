use Rattle.std.proofs.Common.{true, ◌≡◌, ◌≤◌}
use Rattle.cf_lane.specs.Handled.{WritesLog}
use Rattle.cf_links.specs.Links.{LinksPlace}
use Rattle.cf_serve.specs.Served.{OpensDo}
use Rattle.cf_serve.proofs.top.open_places.Given as goal

abbrev pub invariant-loop-number : goal.invariant-loop-number
invariant-loop-number g l =
    record {
      served : LinksPlace.serves (g.L.Links.place l.links) ≡ LinksPlace.serves (g.L.Links.place l.fn.links);
      round : LinksPlace.round_faults (g.L.Links.place l.links) ≡ LinksPlace.round_faults (g.L.Links.place l.fn.links);
      does : OpensDo l.fn.places l.number (g.L.Links.told l.fn.links) (g.L.Links.told l.links) (g.D.Desk.value l.fn.desk).lines (g.D.Desk.value l.desk).lines;
      whole : (g.D.Desk.value l.desk).whole ≡ true;
      log : WritesLog (g.D.Desk.value l.fn.desk) (g.D.Desk.value l.desk);
      later : (g.D.Desk.value l.fn.desk).faults ≤ (g.D.Desk.value l.desk).faults;
    }
