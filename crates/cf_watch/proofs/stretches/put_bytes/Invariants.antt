use Rattle.std.proofs.Common.{◌≡◌, ◌<◌, ◌+◌, ℕ, Option, Some, length, map, reverse, slice_index}
use Rattle.cf_stream.specs.Stream.{Byte}
use Rattle.cf_watch.specs.Kept.{run_value}
use Rattle.cf_watch.specs.Stretches.{FirstLetter, apart, runs_of}
use Rattle.cf_watch.proofs.stretches.put_bytes.Given as goal

-- the first bytes are among the runs
abbrev pub invariant-loop-i : goal.invariant-loop-i
invariant-loop-i l = (f : ℕ → Option FirstLetter) → ((k : ℕ) → k < length l.bytes → f (l.start + k) ≡ Some (record { letter = Byte (slice_index l.bytes k); number = l.number })) →
    reverse (map run_value l.fn.runs.items) ≡ runs_of (apart l.count f) l.start → reverse (map run_value l.runs.items) ≡ runs_of (apart l.count f) (l.start + l.i)
