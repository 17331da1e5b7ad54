-- Beside the proof: which acts commands of a protocol can have, as far as a policy can name them: `can_have`. Warnings about rules go
-- by it. The tables are those of the policy language: MODBUS Application Protocol Specification V1.1b3, section 6; IEEE 1815-2012,
-- section 4.4 and annex A; IEC 60870-5-101, sections 7.3.2, 7.3.4 and 7.3.5. What of them is served is this project's own.
use Rattle.std.specs.Prelude.{ℕ, ◌+◌, ◌*◌, ℤ, pos, ◌-ℤ◌, ◌==◌, nat_le, Bool, true, false, ◌&&◌, ◌||◌, if◌then◌else◌, List, [], ◌∷◌, Option}
use Rattle.std.specs.Prelude.{Some, None}
use Rattle.std.specs.List.{list_any}
use Rattle.cf_view.specs.declared.base.Act.{Act}
use Rattle.cf_policy.specs.declared.policy.Protocol.{Protocol}
use Rattle.cf_policy.specs.declared.policy.Protocol.TheVariants.{Modbus, Dnp3, Iec104}
use Rattle.cf_policy.specs.declared.policy.Span.{Span}
use Rattle.cf_policy.specs.Verdict.{covers}
use Rattle.cf_acts.specs.declared.acts.Groups.{Groups}
use Rattle.cf_acts.specs.declared.acts.Groups.TheVariants as groups
use Rattle.cf_acts.specs.declared.acts.Kind.{Kind}

-- the numbers from 0 to one
abbrev pub up_to : ℕ → Span
up_to high = record { low = pos 0; high = pos high }

-- the numbers from one to another
abbrev pub between : ℕ → ℕ → Span
between low high = record { low = pos low; high = pos high }

-- the numbers of two's complement: as many below 0 as from 0 on
abbrev pub signed : ℕ → Span
signed half = record { low = pos 0 -ℤ pos half; high = pos half -ℤ pos 1 }

abbrev pub kind : Groups → Span → Option Span → Kind
kind g p v = record { groups = g; points = p; values = v }

-- registers and coils have addresses of 16 bits
abbrev pub modbus_kind : ℕ → Option Span → Kind
modbus_kind group values = kind (groups.Span (up_to group)) (up_to 65535) values

-- Modbus: 1 to 4 read, 5 and 15 write coils, 6 and 16 registers, 22 masks a register, 23 writes registers and reads
abbrev pub modbus_kinds : ℕ → List Kind
modbus_kinds code =
    if (nat_le 1 code && nat_le code 4) || (code == 22) then modbus_kind 0 None ∷ [] else
    (if (code == 5) || (code == 15) then modbus_kind 0 (Some (up_to 1)) ∷ [] else
    (if (code == 6) || (code == 16) then modbus_kind 0 (Some (up_to 65535)) ∷ [] else
    (if code == 23 then kind (groups.Span (between 1 1)) (up_to 65535) (Some (up_to 65535)) ∷ modbus_kind 0 None ∷ [] else [])))

-- objects of a group and its variations, with indexes of 16 bits
abbrev pub control_kind : (group first last : ℕ) → Option Span → Kind
control_kind group first last values =
    kind (groups.Span (between (group * 256 + first) (group * 256 + last))) (up_to 65535) values

-- an object that is written, which has no index here
abbrev pub written_kind : (group variation : ℕ) → Kind
written_kind group variation =
    kind (groups.Span (between (group * 256 + variation) (group * 256 + variation))) (up_to 0) None

-- DNP3: controls, written objects, and requests that name objects of any group and variation
abbrev pub dnp3_kinds : ℕ → List Kind
dnp3_kinds code =
    if code == 2 then written_kind 50 1 ∷ written_kind 50 3 ∷ written_kind 80 1 ∷ [] else
    (if nat_le 3 code && nat_le code 6 then
    control_kind 12 1 1 (Some (up_to 255)) ∷ control_kind 41 1 1 (Some (signed 2147483648))
    ∷ control_kind 41 2 2 (Some (signed 32768)) ∷ control_kind 41 3 4 None ∷ []
    else
    (if (code == 1) || ((nat_le 7 code && nat_le code 10) || ((code == 13) || ((code == 14) || (nat_le 20 code && nat_le code 24))))
    then kind (groups.Span (up_to 65535)) (up_to 0) None ∷ [] else []))

-- information objects have addresses of 24 bits
abbrev pub object_kind : Option Span → Kind
object_kind values = kind groups.Causes (up_to 16777215) values

-- IEC 60870-5-104: single, double and step commands, set points, bit strings, qualifiers, and types without a number
abbrev pub iec104_kinds : ℕ → List Kind
iec104_kinds code =
    if (code == 45) || (code == 58) then object_kind (Some (up_to 1)) ∷ [] else
    (if (code == 46) || ((code == 47) || ((code == 59) || (code == 60))) then object_kind (Some (up_to 3)) ∷ [] else
    (if (code == 48) || ((code == 49) || ((code == 61) || ((code == 62) || ((code == 110) || (code == 111)))))
    then object_kind (Some (signed 32768)) ∷ [] else
    (if (code == 51) || (code == 64) then object_kind (Some (up_to 4294967295)) ∷ [] else
    (if (code == 100) || ((code == 101) || ((code == 105) || (code == 113))) then object_kind (Some (up_to 255)) ∷ [] else
    (if (code == 50) || ((code == 63) || ((code == 102) || ((code == 103) || ((code == 107) || (code == 112)))))
    then object_kind None ∷ [] else [])))))

-- the kinds of acts that commands with a code have
abbrev pub kinds : Protocol → ℕ → List Kind
kinds Modbus code = modbus_kinds code
kinds Dnp3 code = dnp3_kinds code
kinds Iec104 code = iec104_kinds code

-- a group of them; the causes are those of requests, activations and deactivations
abbrev pub has_group : Groups → ℤ → Bool
has_group (groups.Span s) n = covers s n
has_group groups.Causes n = covers (between 5 5) n || (covers (between 6 6) n || covers (between 8 8) n)

-- a value of them, or none where they have none
abbrev pub has_value : Option Span → Option ℤ → Bool
has_value None None = true
has_value None (Some n) = false
has_value (Some s) None = false
has_value (Some s) (Some n) = covers s n

-- the act is of the kind, whatever its code is
abbrev pub is_of_kind : Act → Kind → Bool
is_of_kind act k = has_group k.groups (pos act.group) && (covers k.points (pos act.point) && has_value k.values act.value)

-- a command of the protocol can have the act
abbrev pub can_have : Protocol → Act → Bool
can_have protocol act = list_any (is_of_kind act) (kinds protocol act.code)
