use Rattle.std.proofs.Common.{◌≡◌, ℕ, ◌-◌, ◌%◌, ◌<◌, ◌≤◌, ◌⊎◌, length, get_or}
use Rattle.cf_dnplink.specs.UserOctets.{user_of}
use Rattle.cf_dnplink.proofs.user.copy_user.Given as goal

-- the octets before `done` are those of the frame, and whole blocks where not all are
abbrev pub invariant-loop-done : goal.invariant-loop-done
invariant-loop-done l = record {
  size : length l.out ≡ length (user_of l.frame.blocks.bytes);
  range : l.done ≤ length l.out;
  whole : (l.done % 16 ≡ 0) ⊎ (l.done ≡ length l.out);
  same : (k : ℕ) → k < l.done → get_or l.out k 0 ≡ get_or (user_of l.frame.blocks.bytes) k 0;
}

abbrev pub decreases-loop-done : goal.decreases-loop-done
decreases-loop-done l = length l.out - l.done
