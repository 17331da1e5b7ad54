-- Steps of the proof: what the hosts take of what they hear, `TakesInside`, and what they owe, `StaysOwed`.
use Rattle.std.specs.Prelude.{◌≡◌, ◌≤◌, ◌⊎◌, ℕ, false}
use Rattle.cf_hosts.specs.declared.end.HostEnd.{HostEnd}
use Rattle.cf_hosts.specs.declared.end.Phase.TheVariants as phase
use Rattle.cf_hosts.specs.declared.end.Said.{Said}
use Rattle.cf_hosts.specs.declared.end.Said.TheVariants as say
use Rattle.cf_hosts.specs.declared.end.Taken.{Taken}
use Rattle.cf_hosts.specs.declared.end.Taken.TheVariants as taken

-- a unit takes at least one octet, and no more than there are; where nothing was said to it, nothing is owed
abbrev pub TakesInside : ℕ → (owed : Said) → Taken → Type 0
TakesInside count owed taken.Nothing = Unit {0}
TakesInside count owed (taken.Unit used said) = (1 ≤ used) × (used ≤ count) × (said ≡ false → owed ≡ say.Nothing)

-- what a host owed it owes still, unless its connection was reset
abbrev pub StaysOwed : Said → HostEnd → Type 0
StaysOwed owed host = (host.said ≡ owed) ⊎ (host.phase ≡ phase.Reset)
