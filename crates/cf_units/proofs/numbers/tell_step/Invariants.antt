use Rattle.std.proofs.Common.{◌≡◌, None}
use Rattle.cf_units.proofs.numbers.tell_step.Given as goal

abbrev pub invariant-loop-send : goal.invariant-loop-send
invariant-loop-send l = l.numbers.owed ≡ None
