-- Steps of the proof: what is kept of clients, as entries of a list, and what of it counts still. The main definitions are `held_value` and
-- `AreSingle`.
use Rattle.cf_lane.specs.Over.{are_over}
use Rattle.cf_serve.specs.Lending.{Has, KeptRings, KeptValue, Lent}
use Rattle.cf_serve.specs.declared.kept.Held.{Held}
use Rattle.cf_serve.specs.declared.kept.Held.TheVariants as held
use Rattle.std.specs.Prelude.{Bool, List, count_by, not, true, ℕ, ◌&&◌, ◌==◌, ◌≤◌}

abbrev pub held_value : Held → KeptRings
held_value (held.Here rings) = Has rings
held_value (held.Lent session) = Lent session

-- an entry is of the client of this address at a listening place
abbrev pub takes_entry : (place address : ℕ) → KeptValue → Bool
takes_entry place address k = k.place == place && k.address == address

-- no client has two entries
abbrev pub AreSingle : List KeptValue → Type 0
AreSingle store = (place address : ℕ) → count_by (takes_entry place address) store ≤ 1

-- something of the rings that are kept counts still at a moment, or a session has them
abbrev pub counts_still : (moment : ℕ) → KeptRings → Bool
counts_still moment (Has rings) = not (are_over moment rings)
counts_still moment (Lent session) = true
