-- Steps of the proof: what bytes that are offered do to the slots of a ring: `KeepsText`, and what stays beside them.
use Rattle.std.specs.Prelude.{◌≡◌, ℕ, ◌+◌, ◌-◌, ◌<◌, ◌≤◌, ◌⊎◌, List, length, slice_index, Some}
use Rattle.std.specs.Option.{option_or}
use Rattle.cf_stream.specs.Stream.{Byte}
use Rattle.cf_rebuild.specs.Ring.{cell_at}

-- each slot from `from` on keeps the letter that it had, or else the byte of the text
abbrev pub KeepsText : (from : ℕ) (text ends kept bytes kept' bytes' : List ℕ) → Type 0
KeepsText from text ends kept bytes kept' bytes' = (s : ℕ) → from ≤ s → s < from + length text →
    cell_at kept' ends bytes' s ≡ option_or (cell_at kept ends bytes s) (Some (Byte (slice_index text (s - from))))

-- each slot but the n from `from` on keeps what it had
abbrev pub KeepsBeside : (from n : ℕ) (ends kept bytes kept' bytes' : List ℕ) → Type 0
KeepsBeside from n ends kept bytes kept' bytes' =
    (s : ℕ) → (s < from) ⊎ (from + n ≤ s) → cell_at kept' ends bytes' s ≡ cell_at kept ends bytes s

-- bytes that are the same beside a range of places
abbrev pub AreSameBeside : (from n : ℕ) (bytes bytes' : List ℕ) → Type 0
AreSameBeside from n bytes bytes' = (s : ℕ) → (s < from) ⊎ (from + n ≤ s) → slice_index bytes' s ≡ slice_index bytes s
