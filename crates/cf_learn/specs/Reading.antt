-- Steps of the proof: what a reader adds for what stands at the front of a client's bytes: `TakesFront`.
use Rattle.std.specs.Prelude.{◌≡◌, ℕ, ◌<◌, ◌↔◌, List, [], ◌∷◌, ◌++◌, map, Contains, Option, Some, None}
use Rattle.std.specs.List.{flat_map}
use Rattle.cf_acts.specs.Commands.{IsOfCommand}
use Rattle.cf_dnptrans.specs.AssemblyValue.{AssemblyValue, IsAssemblyOf}
use Rattle.cf_dnptrans.specs.Passing.{completed}
use Rattle.cf_dnptrans.specs.Transport.{answer_to, last_fragment}
use Rattle.cf_lane.specs.Unit.{AreUnits, SpellsUnit, Tail, UnitValue}
use Rattle.cf_policy.specs.declared.Asset.{Asset}
use Rattle.cf_policy.specs.declared.Protocol.{Protocol}
use Rattle.cf_view.specs.Framing.{Begins}
use Rattle.cf_view.specs.declared.Act.{Act}
use Rattle.cf_learn.specs.Seen.{seen_of}
use Rattle.cf_learn.specs.Shown.{Fragment, HaveAct, Message, message_in, segment_of}
use Rattle.cf_learn.specs.declared.seen.Seen.{Seen}

-- what is added is acts of the client: those that are so, each an act of a command of the protocol
pub record Adds (protocol : Protocol) (client : ℕ) (IsSo : Act → Type 0) (old new : List Seen) : Type 0 where
  pub acts : List Act
  pub appended : new ≡ old ++ map (seen_of client) acts
  pub exactly : (act : Act) → Contains acts act ↔ IsSo act
  pub of_commands : (act : Act) → Contains acts act → IsOfCommand protocol act

-- the fragment that a segment makes whole after earlier ones, the newest first
abbrev pub made_whole : (earlier : List (List ℕ)) → List ℕ → List (List ℕ)
made_whole earlier s = completed (answer_to earlier s) (last_fragment (s ∷ earlier))

-- the messages that a unit brings after earlier segments
abbrev pub new_messages : Asset → (earlier : List (List ℕ)) → UnitValue → List Message
new_messages asset earlier u = message_in u ++ map Fragment (flat_map (made_whole earlier) (segment_of asset u))

-- a unit, whose acts are added
pub record TakesUnit (asset : Asset) (client : ℕ) (earlier : List (List ℕ)) (bytes : List ℕ) (old new : List Seen)
    (assembly : AssemblyValue) (used : ℕ) : Type 0 where
  pub unit : UnitValue
  pub begins : Begins (SpellsUnit asset.protocol) bytes unit used
  pub some : 0 < used
  pub adds : Adds asset.protocol client (HaveAct asset (new_messages asset earlier unit)) old new
  pub stands : IsAssemblyOf assembly (segment_of asset unit ++ earlier)

-- no whole unit
pub record TakesNone (asset : Asset) (bytes : List ℕ) (old new : List Seen) : Type 0 where
  pub tail : Tail
  pub are : AreUnits asset.protocol bytes [] tail
  pub same : new ≡ old

abbrev pub TakesFront : Asset → (client : ℕ) → (earlier : List (List ℕ)) → (bytes : List ℕ) → (old new : List Seen) → AssemblyValue
    → (used : Option ℕ) → Type 0
TakesFront asset client earlier bytes old new assembly (Some used) = TakesUnit asset client earlier bytes old new assembly used
TakesFront asset client earlier bytes old new assembly None = TakesNone asset bytes old new

-- the same acts, in whatever order and however often each
abbrev pub HaveSame : (seen all : List Seen) → Type 0
HaveSame seen all = (s : Seen) → Contains seen s ↔ Contains all s

-- what is added to what was gathered is acts of the client, but for what was there
pub record AddsSame (protocol : Protocol) (client : ℕ) (IsSo : Act → Type 0) (old new : List Seen) : Type 0 where
  pub all : List Seen
  pub adds : Adds protocol client IsSo old all
  pub same : HaveSame new all

-- what is gathered is the same as with all acts of what stands at the front
pub record GathersFront (asset : Asset) (client : ℕ) (earlier : List (List ℕ)) (bytes : List ℕ) (all new : List Seen) (assembly : AssemblyValue)
    (used : Option ℕ) : Type 0 where
  pub after : List Seen
  pub takes : TakesFront asset client earlier bytes all after assembly used
  pub same : HaveSame new after
