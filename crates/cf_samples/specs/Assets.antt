-- Beside the proof: the assets of the tests as values: `pump_asset` and `rtu_asset`.
use Rattle.std.specs.Prelude.{None, pos, [], ◌∷◌, codes, false}
use Rattle.cf_policy.specs.declared.policy.Action.TheVariants.{Allow}
use Rattle.cf_policy.specs.declared.policy.Asset.{Asset}
use Rattle.cf_policy.specs.declared.policy.Protocol.TheVariants.{Modbus, Dnp3}
use Rattle.cf_policy.specs.declared.policy.Rule.{Rule}
use Rattle.cf_samples.specs.declared.TheConstants.{PUMP, RTU}

-- single writes of 0 to 500 to the registers 40 to 49 are allowed
abbrev pub set_rule : Rule
set_rule = record {
  name = codes "set";
  action = Allow;
  clients = [];
  codes = record { low = pos 6; high = pos 6 } ∷ [];
  groups = [];
  points = record { low = pos 40; high = pos 49 } ∷ [];
  values = record { low = pos 0; high = pos 500 } ∷ [];
  rate = None;
  log = false;
}

abbrev pub pump_asset : Asset
pump_asset = record {
  name = codes "pump";
  endpoint = PUMP;
  protocol = Modbus;
  station = 1;
  master = 0;
  rules = set_rule ∷ [];
}

abbrev pub rtu_asset : Asset
rtu_asset = record { name = codes "rtu"; endpoint = RTU; protocol = Dnp3; station = 10; master = 1; rules = [] }
