-- Steps of the proof: one thing for each side (`of_side`), and what it ends as where that of a side is lent (`LendsSide`).
use Rattle.std.specs.Borrow.{Fml, Lends, MutBor, RattleType}
use Rattle.cf_view.specs.declared.Side.{Side}
use Rattle.cf_view.specs.declared.Side.TheVariants as side
use Rattle.cf_relay.specs.declared.sides.Sides.{Sides}
use Rattle.cf_relay.specs.contracts.sides.Sides.{the_row}

-- the value of a side
abbrev pub of_side : {T : Type 0} → Side → Sides T → T
of_side side.Client both = both.client
of_side side.Controller both = both.controller

-- two values with another in the place of a side's
abbrev pub with_side : {T : Type 0} → Side → Sides T → T → Sides T
with_side side.Client both x = record both { client = x }
with_side side.Controller both x = record both { controller = x }

-- the value of a side as the borrow r of it shows last, once r ends
abbrev pub LendsSide : (T : RattleType) → MutBor (Sides T.Denot) → Side → MutBor T.Denot → Fml
LendsSide T both s r = Lends (the_row T) T both r (with_side s both.now)
