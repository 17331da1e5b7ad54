-- Steps of the proof: what a call that writes lines leaves of the desk, in one clause: `LogsLines`.
use Rattle.cf_lane.specs.Handled.{WritesLog}
use Rattle.cf_outside.specs.Desk.{DeskValue}
use Rattle.cf_outside.specs.Faults.{HasCause}
use Rattle.std.specs.Prelude.{Bool, false, true, ◌≡◌}

-- lines were written to the log, perhaps none, and nothing else: where the call did not fail the desk is whole, and a failure has its
-- cause
pub record LogsLines (old new : DeskValue) (failed : Bool) : Type 0 where
  pub whole : failed ≡ false → new.whole ≡ true
  pub log : WritesLog old new
  pub cause : HasCause old.faults new.faults (failed ≡ true)
