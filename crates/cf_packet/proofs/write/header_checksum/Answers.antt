use Rattle.std.proofs.Common.{refl, arith}
use Rattle.cf_packet.specs.Packet.{packet_value}
use Rattle.cf_packet.specs.Written.{header_with}
use Rattle.cf_packet.proofs.Written.{header_octets}
use Rattle.cf_packet.proofs.write.header_checksum.Goals as goal

pub returns : goal.returns
returns c =
    let octets = header_octets (packet_value c.args.packet.now) c.requires 0 (omega arith) (omega arith) (omega arith) in
    let e = c.folded.ensures (header_with 0 (packet_value c.args.packet.now)) octets (record { carries = 0; value = omega arith; few = omega arith }) in
    rw e refl
