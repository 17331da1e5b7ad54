use Rattle.std.proofs.Common.{◌∙◌}
use Rattle.cf_packet.specs.Packet.{packet_value}
use Rattle.cf_leg.proofs.send.send.Goals as goal

pub returns-clause-gets : goal.returns-clause-gets
returns-clause-gets g c = c.emit.ensures.gets (packet_value c.args.packet.now) (c.as_slice.ensures.value ∙ c.write_packet.ensures.octets)
