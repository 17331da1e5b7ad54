use Rattle.std.proofs.Common.{rules}
use Rattle.cf_modbus.proofs.Singles.{register_written}
use Rattle.cf_modbus.proofs.single.register_act.Goals as goal

pub returns : goal.returns
returns c = register_written c.args.pdu.now _ c.number_at.ensures.octets c.requires.size c.requires.code (search rules)
