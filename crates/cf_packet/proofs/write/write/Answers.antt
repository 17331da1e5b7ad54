use Rattle.std.proofs.Common.{append_assoc}
use Rattle.cf_packet.specs.Packet.{packet_value}
use Rattle.cf_packet.specs.Written.{header_checksum, header_with, segment_checksum, segment_header}
use Rattle.cf_packet.proofs.write.write.Goals as goal

pub returns-clause-octets : goal.returns-clause-octets
returns-clause-octets c =
    let p = packet_value c.args.packet.now in
    rw (c.push_bytes.ensures.items, c.push_segment_header.ensures.items, c.push_header.ensures.items, c.clear.ensures)
    (append_assoc (header_with (header_checksum p) p) (segment_header (segment_checksum p) p) p.text)
