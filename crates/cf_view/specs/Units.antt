-- The units of a whole stream, for any grammar: `IsUnitsThenRest` and `IsUnitsThenBreak`.
use Rattle.std.specs.Prelude.{◌≡◌, ℕ, ◌⊎◌, List, [], ◌∷◌, drop}
use Rattle.cf_view.specs.Framing.{Begins, IsPartial, BreaksAt}

-- units that follow each other from the front, and the rest that follows them
abbrev pub BeginsWithUnits : {U : Type 0} (Spells : U → List ℕ → Type 0) → List U → List ℕ → List ℕ → Type 0
BeginsWithUnits Spells [] stream rest = stream ≡ rest
BeginsWithUnits Spells (u ∷ us) stream rest = (n : ℕ) × Begins Spells stream u n × BeginsWithUnits Spells us (drop n stream) rest

-- the stream is these units and then a rest that is a proper prefix of a unit, which may be empty
pub record IsUnitsThenRest {U : Type 0} (Spells : U → List ℕ → Type 0) (units : List U) (stream rest : List ℕ) : Type 0 where
  pub starts : BeginsWithUnits Spells units stream rest
  pub partial : IsPartial Spells rest

-- the stream is these units and then an octet, at a place of what follows them, that no unit has in that place
pub record IsUnitsThenBreak {U : Type 0} (Spells : U → List ℕ → Type 0) (units : List U) (stream : List ℕ) (place : ℕ) : Type 0 where
  pub rest : List ℕ
  pub starts : BeginsWithUnits Spells units stream rest
  pub breaks : BreaksAt Spells rest place

-- the stream is units, and then a proper prefix of one or an octet that no unit has in its place
abbrev pub HasUnits : {U : Type 0} → (U → List ℕ → Type 0) → List ℕ → Type 0
HasUnits {U} Spells stream =
    (units : List U) × (((rest : List ℕ) × IsUnitsThenRest Spells units stream rest)
    ⊎ ((place : ℕ) × IsUnitsThenBreak Spells units stream place))
