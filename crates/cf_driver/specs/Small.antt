-- A queue of which at most 16,384 letters wait, End counted: `IsSmall`, and `is_small` by what was acknowledged.
use Rattle.std.specs.Prelude.{Bool, if◌then◌else◌, length, nat_le, ◌+◌, ◌-◌, ◌≤◌}
use Rattle.cf_outq.specs.SendQueue.{Queue, queue_length}
use Rattle.cf_stream.specs.Sizes.{window_size}

abbrev pub IsSmall : Queue → Type 0
IsSmall q = length q.kept + (if q.ended then 1 else 0) ≤ window_size

-- the letters that were put there and not acknowledged
abbrev pub is_small : Queue → Bool
is_small q = nat_le (queue_length q - q.acked) window_size
