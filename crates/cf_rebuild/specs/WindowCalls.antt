-- Steps of the proof: lists of calls of a window: `IsWindowRun`. The newest call stands first, so that what was before a call is the
-- list after it.
use Rattle.std.specs.Prelude.{◌≡◌, ℕ, ◌+◌, ◌^◌, ◌≤◌, List, [], ◌∷◌, length, ℤ, pos, ◌≤ℤ◌}
use Rattle.cf_stream.specs.FirstCopy.{Offer}
use Rattle.cf_stream.specs.Position.{place_or_zero}
use Rattle.cf_stream.specs.Sizes.{window_size}
use Rattle.cf_stream.specs.Stream.{Stream}
use Rattle.cf_rebuild.specs.ReceiveWindow.{Window, IsNew, TakesIn, Consumes, base_of}

pub data WindowCall : Type 0 where
  Offered : ℤ → Stream → WindowCall
  Consumed : ℕ → WindowCall
  Opened : ℤ → WindowCall

-- the call may be made on the first window, and leaves the second
abbrev pub WindowStep : WindowCall → Window → Window → Type 0
WindowStep (Offered at text) old new = TakesIn old (record { at = at; text = text; edge = old.edge }) new
WindowStep (Consumed n) old new = (n ≤ length old.pending) × Consumes old n new
WindowStep (Opened edge) old new =
    (pos old.edge ≤ℤ edge) × (edge ≤ℤ pos (base_of old + window_size)) × (edge ≤ℤ pos (old.consumed + 32768)) × (edge ≤ℤ pos (2 ^ 31))
    × (new ≡ record old { edge = place_or_zero edge })

-- calls from a new window on that leave this one
abbrev pub IsWindowRun : List WindowCall → Window → Type 0
IsWindowRun [] w = IsNew w
IsWindowRun (call ∷ earlier) w = (before : Window) × IsWindowRun earlier before × WindowStep call before w

-- the edge that was opened last
abbrev pub edge_by : List WindowCall → ℕ
edge_by [] = 0
edge_by (Opened edge ∷ earlier) = place_or_zero edge
edge_by (_ ∷ earlier) = edge_by earlier

-- the number of bytes consumed
abbrev pub consumed_by : List WindowCall → ℕ
consumed_by [] = 0
consumed_by (Consumed n ∷ earlier) = consumed_by earlier + n
consumed_by (_ ∷ earlier) = consumed_by earlier

-- the offers, each with the edge as it stood
abbrev pub offers_by : List WindowCall → List Offer
offers_by [] = []
offers_by (Offered at text ∷ earlier) = record { at = at; text = text; edge = edge_by earlier } ∷ offers_by earlier
offers_by (_ ∷ earlier) = offers_by earlier
