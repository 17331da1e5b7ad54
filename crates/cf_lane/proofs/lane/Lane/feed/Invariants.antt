use Rattle.std.proofs.Common.{◌≡◌, ◌-◌, ◌*◌, ◌≤◌, length, true}
use Rattle.cf_outside.specs.Desk.{DeskValue}
use Rattle.cf_lane.proofs.Histories.{Along}
use Rattle.cf_lane.specs.Handled.{IsLaneOf, state, Grows, CountsBy, WritesLog, debt}
use Rattle.cf_lane.proofs.lane.Lane.feed.Given as goal

abbrev pub invariant-units : goal.invariant-units
invariant-units g l =
    let value = g.D.Desk.value in
    record {
      inside : l.used ≤ length l.bytes.bytes;
      along : Along l.site l.moment l.side l.bytes.bytes l.used (state l.fn.self l.fn.to_client l.fn.to_controller (DeskValue.lines (value l.fn.desk)))
          (state l.self l.to_client l.to_controller (DeskValue.lines (value l.desk)));
      client_grows : Grows (2 * l.used) (debt l.fn.self) (debt l.self) l.fn.to_client l.to_client;
      controller_grows : Grows (2 * l.used) (debt l.fn.self) (debt l.self) l.fn.to_controller l.to_controller;
      counts : CountsBy l.used l.fn.self l.self;
      of_site : IsLaneOf l.site l.self;
      whole : DeskValue.whole (value l.desk) ≡ true;
      log : WritesLog (value l.fn.desk) (value l.desk);
    }

abbrev pub decreases-units : goal.decreases-units
decreases-units g l = length l.bytes.bytes - l.used
