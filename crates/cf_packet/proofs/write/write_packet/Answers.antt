use Rattle.cf_packet.specs.Packet.{packet_value}
use Rattle.cf_packet.proofs.Written.{written_again}
use Rattle.cf_packet.proofs.write.write_packet.Goals as goal

pub returns-clause-again : goal.returns-clause-again
returns-clause-again c = rw c.write.ensures.octets (written_again (packet_value c.args.packet.now) c.write.ensures.ranges c.requires)
