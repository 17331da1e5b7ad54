-- The history of a session, a list of `Element`: what was newly taken of each side, event by event, oldest first.
use Rattle.cf_stream.specs.Stream.{Stream}
use Rattle.cf_view.specs.declared.Side.{Side}
use Rattle.std.specs.List.{list_any}
use Rattle.std.specs.Prelude.{Bool, List, [], false, if◌then◌else◌, true, ℕ, ◌&&◌, ◌++◌, ◌∷◌}
use Rattle.cf_view.specs.declared.Side.TheVariants as side

-- the letters that an event took newly of a side, with the event's moment in microseconds
pub record Element : Type 0 where
  pub moment : ℕ
  pub side : Side
  pub letters : Stream

-- both are the same side
abbrev pub is_side : Side → Side → Bool
is_side side.Client side.Client = true
is_side side.Client side.Controller = false
is_side side.Controller side.Client = false
is_side side.Controller side.Controller = true

-- the bytes of a side in an element
abbrev pub bytes_in : Side → Element → List ℕ
bytes_in s e = if is_side s e.side then e.letters.bytes else []

-- all bytes taken of a side
abbrev pub bytes_of : Side → List Element → List ℕ
bytes_of s [] = []
bytes_of s (e ∷ es) = bytes_in s e ++ bytes_of s es

-- the side's End was taken
abbrev pub ended_of : Side → List Element → Bool
ended_of s es = list_any (λ e. is_side s e.side && e.letters.ended) es

-- the stream taken of a side
abbrev pub taken : Side → List Element → Stream
taken s es = record { bytes = bytes_of s es; ended = ended_of s es }

-- bytes at a moment, and an End
abbrev pub bytes_at : ℕ → Side → List ℕ → Element
bytes_at moment s bytes = record { moment = moment; side = s; letters = record { bytes = bytes; ended = false } }

-- the End of a side, taken at a moment
abbrev pub end_at : ℕ → Side → Element
end_at moment s = record { moment = moment; side = s; letters = record { bytes = []; ended = true } }

-- letters of a side, taken at a moment, with its End or without it
abbrev pub letters_at : ℕ → Side → List ℕ → Bool → Element
letters_at moment s bytes ended = record { moment = moment; side = s; letters = record { bytes = bytes; ended = ended } }
