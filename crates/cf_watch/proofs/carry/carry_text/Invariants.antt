use Rattle.std.proofs.Common.{◌≤◌, ◌-◌, length, take}
use Rattle.cf_watch.specs.Kept.{TakesBehind}
use Rattle.cf_watch.proofs.Taking.{bytes_from}
use Rattle.cf_watch.proofs.carry.carry_text.Given as goal

-- the first letters are taken
abbrev pub invariant-letters : goal.invariant-letters
invariant-letters l = record {
  most : l.i ≤ length l.text;
  takes : TakesBehind l.base (bytes_from l.number l.at (take l.i l.text)) l.fn.flow l.fn.ahead l.flow l.ahead;
}

abbrev pub decreases-letters : goal.decreases-letters
decreases-letters l = length l.text - l.i
