-- Codes above 255 are none that a protocol serves.
use Rattle.std.proofs.Common.{◌≡◌, ℕ, ◌≤◌, [], arith}
use Rattle.std.proofs.lemmas.Bool.Decides.{nat_tests}
use Rattle.cf_policy.specs.declared.policy.Protocol.{Protocol}
use Rattle.cf_policy.specs.declared.policy.Protocol.TheVariants.{Modbus, Dnp3, Iec104}
use Rattle.cf_acts.specs.Acts.{kinds, modbus_kinds, dnp3_kinds, iec104_kinds}

modbus_end : (code : ℕ) → 256 ≤ code → modbus_kinds code ≡ []
modbus_end code high = grind (arith, nat_tests)

dnp3_end : (code : ℕ) → 256 ≤ code → dnp3_kinds code ≡ []
dnp3_end code high = grind (arith, nat_tests)

iec104_end : (code : ℕ) → 256 ≤ code → iec104_kinds code ≡ []
iec104_end code high = grind (arith, nat_tests)

pub kinds_end : (p : Protocol) (code : ℕ) → 256 ≤ code → kinds p code ≡ []
kinds_end Modbus code high = modbus_end code high
kinds_end Dnp3 code high = dnp3_end code high
kinds_end Iec104 code high = iec104_end code high
