use Rattle.std.proofs.Common.{map, true, ◌≡◌, ◌≤◌}
use Rattle.cf_lane.specs.Handled.{WritesLog}
use Rattle.cf_serve.proofs.Saying.{SaysBegin}
use Rattle.cf_serve.specs.Minute.{tally_at}
use Rattle.cf_serve.specs.Phase.{phase_of}
use Rattle.cf_serve.specs.Table.{seats_of}
use Rattle.cf_serve.proofs.table.Table.put_stands.Given as goal

abbrev pub invariant-loop-number : goal.invariant-loop-number
invariant-loop-number g l =
    record {
      does : SaysBegin l.fn.places (seats_of (map phase_of l.fn.self.sessions.items)) (tally_at l.fn.self.minutes.tallies) l.fn.moment l.number
          (g.D.Desk.value l.fn.desk).lines (g.D.Desk.value l.desk).lines;
      whole : (g.D.Desk.value l.desk).whole ≡ true;
      log : WritesLog (g.D.Desk.value l.fn.desk) (g.D.Desk.value l.desk);
      later : (g.D.Desk.value l.fn.desk).faults ≤ (g.D.Desk.value l.desk).faults;
    }
