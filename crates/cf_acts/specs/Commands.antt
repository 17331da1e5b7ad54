-- The acts of the commands that the reader of a protocol reads: IsOfCommand.
use Rattle.std.specs.Prelude.{◌≡◌, ◌≢◌, ℕ, List, Some, slice_get}
use Rattle.cf_view.specs.declared.base.Act.{Act}
use Rattle.cf_view.specs.Octets.{IsOctets}
use Rattle.cf_policy.specs.declared.policy.Protocol.{Protocol}
use Rattle.cf_policy.specs.declared.policy.Protocol.TheVariants.{Modbus, Dnp3, Iec104}
use Rattle.cf_modbus.specs.Request.{RequestValue}
use Rattle.cf_modbus.specs.Request as request
use Rattle.cf_modbus.specs.Acts as request_acts
use Rattle.cf_asdu.specs.Asdu.{AsduValue}
use Rattle.cf_asdu.specs.Asdu as asdu
use Rattle.cf_asdu.specs.Acts as asdu_acts
use Rattle.cf_dnpobj.specs.Fragment.{FragmentValue}
use Rattle.cf_dnpobj.specs.Fragment as fragment
use Rattle.cf_dnpobj.specs.Acts as fragment_acts

-- a request of Modbus that is read has the act
abbrev pub IsOfRequest : Act → Type 0
IsOfRequest act = (r : RequestValue) × request.IsRead r × (i : ℕ) × (slice_get (request_acts.acts r) i ≡ Some act)

-- an ASDU of IEC 60870-5-104 that is read has the act
abbrev pub IsOfAsdu : Act → Type 0
IsOfAsdu act = (a : AsduValue) × asdu.IsRead a × (i : ℕ) × (slice_get (asdu_acts.acts a) i ≡ Some act)

-- a request of DNP3 that is read, and is no confirmation, has the act
abbrev pub IsOfFragment : Act → Type 0
IsOfFragment act =
    (f : FragmentValue) × (octets : List ℕ) × IsOctets octets × fragment.SpellsRequest f octets × (f.code ≢ 0)
    × (i : ℕ) × (slice_get (fragment_acts.acts f) i ≡ Some act)

-- a command of the protocol that its reader reads has the act
abbrev pub IsOfCommand : Protocol → Act → Type 0
IsOfCommand Modbus act = IsOfRequest act
IsOfCommand Dnp3 act = IsOfFragment act
IsOfCommand Iec104 act = IsOfAsdu act
