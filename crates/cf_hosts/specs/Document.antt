-- The policy of a world: made_policy. It is this project's own: an asset a protocol, of which the rule `ok` allows ten points.
use Rattle.std.specs.Prelude.{List, None, Ok, [], codes, pos, ℕ, ◌*◌, ◌+◌, ◌∷◌, ◌≡◌, false}
use Rattle.cf_view.specs.declared.base.Endpoint.{Endpoint}
use Rattle.cf_policy.specs.declared.policy.Action.TheVariants.{Allow}
use Rattle.cf_policy.specs.declared.policy.Asset.{Asset}
use Rattle.cf_policy.specs.declared.policy.Policy.{Policy}
use Rattle.cf_policy.specs.declared.policy.Protocol.{Protocol}
use Rattle.cf_policy.specs.declared.policy.Protocol.TheVariants.{Modbus, Dnp3, Iec104}
use Rattle.cf_policy.specs.declared.policy.Rule.{Rule}
use Rattle.cf_policy.specs.declared.policy.Span.{Span}
use Rattle.cf_policylang.specs.Documents.{policy_meaning}

-- the numbers from low to high
abbrev pub from_to : (low high : ℕ) → List Span
from_to low high = record { low = pos low; high = pos high } ∷ []

-- the rule `ok` of any client and any value
abbrev pub ok_rule : (codes_of groups points : List Span) → Rule
ok_rule codes_of groups points = record {
  name = codes "ok";
  action = Allow;
  clients = [];
  codes = codes_of;
  groups = groups;
  points = points;
  values = [];
  rate = None;
  log = false;
}

-- the controller 10.2.0.N at a port
abbrev pub controller : (n port : ℕ) → Endpoint
controller n port = record { address = ((10 * 256 + 2) * 256 + 0) * 256 + n; port = port }

-- an asset with one rule
abbrev pub asset_with : (name : List ℕ) → Endpoint → Protocol → (station master : ℕ) → Rule → Asset
asset_with name endpoint protocol station master rule = record {
  name = name;
  endpoint = endpoint;
  protocol = protocol;
  station = station;
  master = master;
  rules = rule ∷ [];
}

-- Modbus: writes of one register, 0 to 9
abbrev pub w0 : Asset
w0 = asset_with (codes "w0") (controller 1 502) Modbus 1 0 (ok_rule (from_to 6 6) [] (from_to 0 9))

-- DNP3: direct operates of the outputs 0 to 9, latched or pulsed by the code 3073
abbrev pub w1 : Asset
w1 = asset_with (codes "w1") (controller 2 20000) Dnp3 10 1 (ok_rule (from_to 5 5) (from_to 3073 3073) (from_to 0 9))

-- IEC 60870-5-104: activations of the single commands 1000 to 1009
abbrev pub w2 : Asset
w2 = asset_with (codes "w2") (controller 3 2404) Iec104 1 0 (ok_rule (from_to 45 45) (from_to 6 6) (from_to 1000 1009))

-- the policy of a world: an asset a protocol
abbrev pub made_policy : Policy
made_policy = record { assets = w0 ∷ w1 ∷ w2 ∷ [] }

-- the text means that policy
abbrev pub IsDocument : List ℕ → Type 0
IsDocument text = policy_meaning text ≡ Ok made_policy
