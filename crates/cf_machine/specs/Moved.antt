-- Which stream moved as a call on a session was answered. The main definitions are `IsOn`, `GotAsMoved` and `TookAsMoved`. This
-- project's own.
use Rattle.std.specs.Prelude.{◌≡◌, ◌≤◌, ℕ, Option, Some, ⊤}
use Rattle.cf_machine.specs.declared.links.sides.Moved.{Moved}
use Rattle.cf_outside.specs.declared.pair.GiveAnswer.{GiveAnswer}
use Rattle.cf_outside.specs.declared.pair.GiveAnswer.TheVariants as given
use Rattle.cf_outside.specs.declared.pair.TakeAnswer.{TakeAnswer}
use Rattle.cf_outside.specs.declared.pair.TakeAnswer.TheVariants as taken
use Rattle.cf_view.specs.declared.Side.{Side}

-- the stream of this side of this session moved, by so many octets at most
pub record IsOn (session : ℕ) (side : Side) (most : ℕ) (moved : Moved) : Type 0 where
  pub same_session : moved.session ≡ session
  pub same_side : moved.side ≡ side
  pub inside : moved.count ≤ most

-- what is told as taken is what the system read from that side of that session
abbrev pub GotAsMoved : (session : ℕ) → Side → Option Moved → TakeAnswer → Type 0
GotAsMoved session side moved (taken.Got n) = moved ≡ Some (record { session = session; side = side; count = n })
GotAsMoved session side moved taken.Idle = ⊤
GotAsMoved session side moved taken.End = ⊤
GotAsMoved session side moved taken.Failed = ⊤

-- what is told as given is what the system took for that side of that session
abbrev pub TookAsMoved : (session : ℕ) → Side → Option Moved → GiveAnswer → Type 0
TookAsMoved session side moved (given.Took n) = moved ≡ Some (record { session = session; side = side; count = n })
TookAsMoved session side moved given.Idle = ⊤
TookAsMoved session side moved given.Failed = ⊤
