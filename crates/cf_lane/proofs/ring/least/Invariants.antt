use Rattle.std.proofs.Common.{ℕ, ◌<◌, ◌≤◌, length, slice_index}
use Rattle.cf_lane.proofs.ring.least.Given as goal

-- the place is one of a least number so far
abbrev pub invariant-loop-i : goal.invariant-loop-i
invariant-loop-i l = record {
  inside : l.place < length l.numbers;
  least : (k : ℕ) → k < l.i → slice_index l.numbers l.place ≤ slice_index l.numbers k;
}
