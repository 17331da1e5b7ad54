-- Steps of the proof: lists of events in which the same is asked of an end, whatever it sent: `AllAsked`.
use Rattle.std.specs.Prelude.{◌≡◌, List, [], ◌∷◌}
use Rattle.cf_leg.specs.Event.{Came, Nothing, Greeting, Packet, Ending, Unspoken, Spoke, Cut, LegEvent}

-- what came, where it is the same packet, or the end was to greet with the same number
abbrev pub SameCame : Came → Came → Type 0
SameCame Nothing Nothing = Unit {0}
SameCame (Greeting p) (Greeting q) = p.seq ≡ q.seq
SameCame (Packet p) (Packet q) = p ≡ q
SameCame _ _ = ⊥

-- the end was to speak for the same list with the same room, or was cut
abbrev pub SameEnding : Ending → Ending → Type 0
SameEnding Unspoken Unspoken = Unit {0}
SameEnding (Spoke s roomy outs) (Spoke t room others) = (s ≡ t) × (roomy ≡ room)
SameEnding (Cut p) (Cut q) = Unit {0}
SameEnding _ _ = ⊥

pub record SameAsked (e f : LegEvent) : Type 0 where
  pub tick : e.tick ≡ f.tick
  pub ticked : e.ticked ≡ f.ticked
  pub came : SameCame e.came f.came
  pub ending : SameEnding e.ending f.ending

abbrev pub AllAsked : List LegEvent → List LegEvent → Type 0
AllAsked [] [] = Unit {0}
AllAsked (e ∷ es) (f ∷ fs) = SameAsked e f × AllAsked es fs
AllAsked _ _ = ⊥
