-- What stands at the front of a stream of units, for any grammar: `Begins`, `IsPartial` and `BreaksAt`.
--
-- A grammar is a relation Spells: the octets are, all of them, a unit that is u. A reason says for a place in
-- a unit which break an octet there makes that no unit has in that place.
use Rattle.std.specs.Prelude.{◌≡◌, ℕ, ◌+◌, ◌<◌, ◌≤◌, ◌⊎◌, List, ◌++◌, length, take}
use Rattle.cf_view.specs.declared.base.Break.{Break}
use Rattle.cf_view.specs.declared.base.Framed.{Framed}
use Rattle.cf_view.specs.declared.base.Framed.TheVariants as framed

-- a unit that is u, of n octets, begins the bytes
pub record Begins {U : Type 0} (Spells : U → List ℕ → Type 0) (bytes : List ℕ) (u : U) (n : ℕ) : Type 0 where
  pub inside : n ≤ length bytes
  pub spells : Spells u (take n bytes)

-- the bytes are a proper prefix of some unit
pub record IsPartial {U : Type 0} (Spells : U → List ℕ → Type 0) (bytes : List ℕ) : Type 0 where
  pub whole : U
  pub more : List ℕ
  pub proper : 0 < length more
  pub spells : Spells whole (bytes ++ more)

-- the bytes begin some unit, or are one
pub record IsFront {U : Type 0} (Spells : U → List ℕ → Type 0) (bytes : List ℕ) : Type 0 where
  pub whole : U
  pub more : List ℕ
  pub spells : Spells whole (bytes ++ more)

-- the octet at place i is the first that no unit has in that place
pub record BreaksAt {U : Type 0} (Spells : U → List ℕ → Type 0) (bytes : List ℕ) (i : ℕ) : Type 0 where
  pub inside : i < length bytes
  pub before : IsPartial Spells (take i bytes)
  pub here : IsFront Spells (take (i + 1) bytes) → ⊥

-- what stands at the front of bytes: a unit of at least one octet, a proper prefix of one, or an octet that no unit has in its
-- place
abbrev pub HasFront : {U : Type 0} → (U → List ℕ → Type 0) → List ℕ → Type 0
HasFront {U} Spells bytes =
    ((u : U) × (n : ℕ) × Begins Spells bytes u n × (0 < n)) ⊎ (IsPartial Spells bytes ⊎ ((place : ℕ) × BreaksAt Spells bytes place))

-- what a framer answered about the bytes is true of them; view is what a contract sees of the unit
abbrev pub Frames : {U X : Type 0} (Spells : U → List ℕ → Type 0) (reason : ℕ → Break) (view : X → U) → Framed X → List ℕ → Type 0
Frames Spells reason view (framed.Unit x used) bytes = Begins Spells bytes (view x) used
Frames Spells reason view framed.More bytes = IsPartial Spells bytes
Frames Spells reason view (framed.Broken b) bytes = (i : ℕ) × BreaksAt Spells bytes i × (b ≡ reason i)

-- an answer, with the unit as a contract sees it
abbrev pub framed_value : {U X : Type 0} (view : X → U) → Framed X → Framed U
framed_value view (framed.Unit x used) = framed.Unit (view x) used
framed_value view framed.More = framed.More
framed_value view (framed.Broken b) = framed.Broken b

-- no spelling begins another's, and no spelling is of two units
abbrev pub IsPrefixFree : {U : Type 0} → (U → List ℕ → Type 0) → Type 0
IsPrefixFree {U} Spells =
    (u v : U) (a b x y : List ℕ) → Spells u a → Spells v b → a ++ x ≡ b ++ y → (u ≡ v) × (a ≡ b)
