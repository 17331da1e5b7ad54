use Rattle.std.proofs.Common.{◌≡◌, ◌≤◌, ◌++◌, ℕ, List, drop, length, map, slice_get}
use Rattle.cf_watch.specs.FlowValue.{stretch_value}
use Rattle.cf_watch.specs.Stretches.{all_stretches}
use Rattle.cf_watch.specs.Trail.{Heard, IsWatchOf}
use Rattle.cf_watch.specs.Watched.{Watched}
use Rattle.cf_watch.specs.declared.scope.Scope.{Scope}
use Rattle.cf_watch.proofs.stretches.stretches_in.Given as goal

-- the stretches of the first flows are there, and the others' letters still stand
abbrev pub invariant-loop-place : goal.invariant-loop-place
invariant-loop-place l = record {
  flows : l.watch.flows ≡ l.fn.watch.flows;
  trail_count : length l.watch.trails.items ≡ length l.fn.watch.trails.items;
  trails : (i : ℕ) → l.place ≤ i → slice_get l.watch.trails.items i ≡ slice_get l.fn.watch.trails.items i;
  stretches : (by : Scope) (number : ℕ) (ws : List Watched) (hs : List Heard) → IsWatchOf by number l.fn.watch ws hs →
      map stretch_value l.stretches.items ++ all_stretches (drop l.place ws) (drop l.place (map (λ h. h.value) hs)) ≡ all_stretches ws (map (λ h. h.value) hs);
}
