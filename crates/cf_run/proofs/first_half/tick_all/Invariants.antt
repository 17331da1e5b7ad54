use Rattle.std.proofs.Common.{◌+◌, ◌-◌, ◌≤◌, false, length, take, List}
use Rattle.cf_outside.specs.Frames.{EmitsAndLogs}
use Rattle.cf_session.specs.Told.{told}
use Rattle.cf_run.specs.Engine.{AreAll, AreDueFrom, AreSound, TickSome}
use Rattle.cf_run.specs.Table.{Session}
use Rattle.cf_run.proofs.first_half.tick_all.Given as goal

abbrev pub invariant-sessions : goal.invariant-sessions
invariant-sessions g l =
    let value = g.D.Desk.value in
    record {
      inside : l.place ≤ length l.table.sessions.items;
      sound : AreSound l.assets l.limit l.table.sessions.items;
      least : AreDueFrom l.due (take l.place l.table.sessions.items);
      fewer : l.count + length l.table.sessions.items ≤ length l.fn.table.sessions.items;
      ticked : (known : List Session) → AreAll l.assets l.moment l.fn.table.sessions.items known →
          TickSome l.assets l.moment known l.table.sessions.items l.place (told (value l.fn.desk)) (told (value l.desk)) l.count;
      frame : EmitsAndLogs (value l.fn.desk) (value l.desk) false;
    }

abbrev pub decreases-sessions : goal.decreases-sessions
decreases-sessions g l = length l.table.sessions.items - l.place
