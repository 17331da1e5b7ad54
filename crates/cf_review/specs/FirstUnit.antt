-- From which byte on a flow is read: IsReadPart. One that begins with its SYN is read from its first byte on; one that begins amid its
-- stream from the first byte at which a unit of the protocol begins.
use Rattle.std.specs.Prelude.{◌≡◌, ◌<◌, ◌⊎◌, ℕ, List, [], ◌∷◌, drop, Option, Some, None}
use Rattle.cf_lane.specs.Unit.{SpellsUnit, UnitValue}
use Rattle.cf_policy.specs.Site.{SiteValue, site_from}
use Rattle.cf_policy.specs.declared.Asset.{Asset}
use Rattle.cf_policy.specs.declared.Protocol.{Protocol}
use Rattle.cf_view.specs.Framing.{Begins}
use Rattle.cf_watch.specs.FlowValue.{FlowValue}

-- a unit of the protocol begins the octets
abbrev pub UnitBegins : Protocol → List ℕ → Type 0
UnitBegins protocol octets = (unit : UnitValue) × (n : ℕ) × Begins (SpellsUnit protocol) octets unit n

-- a unit begins at this place of a text, and at none before it
pub record IsFirstUnit (protocol : Protocol) (bytes : List ℕ) (place : ℕ) : Type 0 where
  pub here : UnitBegins protocol (drop place bytes)
  pub none_before : (earlier : ℕ) → earlier < place → UnitBegins protocol (drop earlier bytes) → ⊥

-- a text at no place of which a unit begins
abbrev pub HasNoUnit : Protocol → List ℕ → Type 0
HasNoUnit protocol bytes = (place : ℕ) → UnitBegins protocol (drop place bytes) → ⊥

-- a text that begins amid a stream is read from its first unit on, and from its first byte on where it has none
abbrev pub IsReadFrom : Protocol → List ℕ → (place : ℕ) → Type 0
IsReadFrom protocol bytes place = IsFirstUnit protocol bytes place ⊎ ((place ≡ 0) × HasNoUnit protocol bytes)

-- a flow from a place of its bytes on
abbrev pub from_place : (place : ℕ) → FlowValue → FlowValue
from_place place f = record f { bytes = drop place f.bytes; born = drop place f.born }

-- the part of a flow that is read, by the record with which the flow begins amid its stream, if it does
abbrev pub IsReadPartBy : Protocol → (midstream : Option ℕ) → (f read : FlowValue) → Type 0
IsReadPartBy protocol None f read = read ≡ f
IsReadPartBy protocol (Some number) f read = (place : ℕ) × IsReadFrom protocol f.bytes place × (read ≡ from_place place f)

-- the part of a flow that is read
abbrev pub IsReadPart : Protocol → (f read : FlowValue) → Type 0
IsReadPart protocol f read = IsReadPartBy protocol f.midstream f read

-- the part that is read of a flow to the site at its place
abbrev pub IsReadPartAt : Option SiteValue → (f read : FlowValue) → Type 0
IsReadPartAt None f read = ⊥
IsReadPartAt (Some site) f read = IsReadPart site.first.protocol f read

-- flow by flow
abbrev pub AreReadParts : List Asset → (flows read : List FlowValue) → Type 0
AreReadParts assets [] read = read ≡ []
AreReadParts assets (f ∷ flows) [] = ⊥
AreReadParts assets (f ∷ flows) (r ∷ read) = IsReadPartAt (site_from assets f.asset) f r × AreReadParts assets flows read
