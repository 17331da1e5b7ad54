use Rattle.std.proofs.Common.{◌≡◌, None}
use Rattle.cf_units.proofs.numbers.play.Given as goal

abbrev pub invariant-loop-line : goal.invariant-loop-line
invariant-loop-line l = l.numbers.owed ≡ None
