-- What is read of the flows of a recording and of their other stretches: AreReadAs of `parts_of`.
use Rattle.std.specs.Prelude.{◌≡◌, List, [], ◌∷◌, ◌++◌, map, slice_get, Option, Some, None}
use Rattle.cf_policy.specs.declared.Asset.{Asset}
use Rattle.cf_policy.specs.declared.Protocol.{Protocol}
use Rattle.cf_review.specs.FirstUnit.{IsReadPart}
use Rattle.cf_watch.specs.FlowValue.{FlowValue, StretchValue}

-- the second is a flow of the client to the site of the first, with the bytes of the part of the first that is read
pub record IsReadAs (protocol : Protocol) (flow read : FlowValue) : Type 0 where
  pub part : FlowValue
  pub is_part : IsReadPart protocol flow part
  pub asset : read.asset ≡ flow.asset
  pub client : read.client ≡ flow.client
  pub bytes : read.bytes ≡ part.bytes

-- the same of a flow to the site whose first asset stands at its place: the others have its protocol
abbrev pub IsReadAsAt : Option Asset → (flow read : FlowValue) → Type 0
IsReadAsAt None flow read = ⊥
IsReadAsAt (Some asset) flow read = IsReadAs asset.protocol flow read

-- flow by flow
abbrev pub AreReadAs : List Asset → (flows read : List FlowValue) → Type 0
AreReadAs assets [] read = read ≡ []
AreReadAs assets (f ∷ flows) [] = ⊥
AreReadAs assets (f ∷ flows) (r ∷ read) = IsReadAsAt (slice_get assets f.asset) f r × AreReadAs assets flows read

-- the flows of a recording, and behind them their other stretches
abbrev pub parts_of : List FlowValue → List StretchValue → List FlowValue
parts_of flows stretches = flows ++ map (λ s. s.flow) stretches

-- others were read behind these
pub record AddsRead (assets : List Asset) (flows old new : List FlowValue) : Type 0 where
  pub more : List FlowValue
  pub read : AreReadAs assets flows more
  pub behind : new ≡ old ++ more
