use Rattle.std.proofs.Common.{◌≡◌, None}
use Rattle.cf_units.proofs.numbers.tell_steps.Given as goal

abbrev pub invariant-loop-step : goal.invariant-loop-step
invariant-loop-step l = l.numbers.owed ≡ None
