-- What a contract sees of a `Flow` and of a `Stretch`: FlowValue, StretchValue.
use Rattle.std.specs.Prelude.{◌≡◌, ◌<◌, ℕ, ℤ, List, All, length, map, Option, Some}
use Rattle.cf_policy.specs.AtEndpoint.{asset_place}
use Rattle.cf_policy.specs.declared.Asset.{Asset}
use Rattle.cf_view.specs.declared.Endpoint.{Endpoint}
use Rattle.cf_watch.specs.declared.flow.Conflict.{Conflict}
use Rattle.cf_watch.specs.declared.flow.Flow.{Flow}
use Rattle.cf_watch.specs.declared.flow.Stretch.{Stretch}

-- a flow: its client, the place in the policy of the first asset at the address and port that it goes to, the record with which it begins
-- where that is amid its stream, its bytes, for each of them the number of the record with which they reached it, and its first conflict
pub record FlowValue : Type 0 where
  pub client : Endpoint
  pub asset : ℕ
  pub midstream : Option ℕ
  pub bytes : List ℕ
  pub born : List ℕ
  pub conflict : Option Conflict

abbrev pub flow_value : Flow → FlowValue
flow_value f = record {
  client = f.client;
  asset = f.asset;
  midstream = f.midstream;
  bytes = f.bytes.items;
  born = f.born;
  conflict =
      f.conflict;
}

-- the place is that of the first asset that has some endpoint
abbrev pub IsFirstPlace : List Asset → (place : ℕ) → Type 0
IsFirstPlace assets place = (endpoint : Endpoint) × (asset_place assets endpoint ≡ Some place)

-- a flow whose asset is a place of the policy, the first with the asset's endpoint, and each byte of which came with a record
pub record IsForAsset (assets : List Asset) (f : FlowValue) : Type 0 where
  pub asset : f.asset < length assets
  pub first : IsFirstPlace assets f.asset
  pub born : length f.born ≡ length f.bytes

-- bytes of a flow that do not follow on its first ones, as a flow that begins amid its stream; and of the first of these stretches the
-- position of the gap
pub record StretchValue : Type 0 where
  pub flow : FlowValue
  pub gap : Option ℤ

abbrev pub stretch_value : Stretch → StretchValue
stretch_value s = record { flow = flow_value s.flow; gap = s.gap }

-- stretches whose flows are so
abbrev pub AreStretchesFor : List Asset → List StretchValue → Type 0
AreStretchesFor assets stretches = All (IsForAsset assets) (map (λ s. s.flow) stretches)
