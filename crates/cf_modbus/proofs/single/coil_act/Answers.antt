use Rattle.std.proofs.Common.{rules}
use Rattle.cf_modbus.proofs.Singles.{coil_off, coil_on}
use Rattle.cf_modbus.proofs.single.coil_act.Goals.{in-0, in-65280}
use Rattle.cf_modbus.proofs.single.coil_act.Goals as goal

pub returns : goal.returns
returns c = elim c.match-number_at.branch [
  | in-0 w ↦ coil_off c.args.pdu.now _ c.number_at.ensures.octets c.requires.size c.requires.code (search rules) (search rules)
  | in-65280 w ↦ coil_on c.args.pdu.now _ c.number_at.ensures.octets c.requires.size c.requires.code (search rules) (search rules)
]
