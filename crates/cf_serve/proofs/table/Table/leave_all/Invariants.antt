use Rattle.std.proofs.Common.{drop, map, take, ◌++◌, ◌≡◌}
use Rattle.std.specs.Prelude.{option_map}
use Rattle.cf_links.specs.Links.{LinksPlace}
use Rattle.cf_serve.specs.Phase.{phase_of}
use Rattle.cf_serve.specs.Served.{left_of}
use Rattle.cf_serve.specs.Table.{MayLeave, seats_of}
use Rattle.cf_serve.proofs.table.Table.leave_all.Given as goal

abbrev pub invariant-loop-served : goal.invariant-loop-served
invariant-loop-served g l =
    record {
      leave : MayLeave (LinksPlace.serves (g.L.Links.place l.links)) l.fn.self.lobby.next (map phase_of (drop l.served-index l.fn.self.sessions.items));
      round : LinksPlace.round_faults (g.L.Links.place l.links) ≡ LinksPlace.round_faults (g.L.Links.place l.fn.links);
      told : g.L.Links.told l.links ≡ option_map (λ es. es ++ left_of (seats_of (map phase_of (take l.served-index l.fn.self.sessions.items)))) (g.L.Links.told l.fn.links);
    }
