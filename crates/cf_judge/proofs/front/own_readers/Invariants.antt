use Rattle.std.proofs.Common.{◌≡◌, length}
use Rattle.cf_judge.specs.Front.{AreNewReaders}
use Rattle.cf_judge.proofs.front.own_readers.Given as goal

-- that of each asset before the place
abbrev pub invariant-loop-place : goal.invariant-loop-place
invariant-loop-place l = record {
  count : length l.own.items ≡ l.place;
  each : AreNewReaders l.site l.client l.own.items;
}
