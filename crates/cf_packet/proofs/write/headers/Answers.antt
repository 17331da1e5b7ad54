use Rattle.std.proofs.Common.{ap, append_assoc, arith, length}
use Rattle.cf_packet.specs.Packet.{packet_value}
use Rattle.cf_packet.specs.Written.{header_checksum, header_with, option_words, segment_checksum, segment_header}
use Rattle.cf_packet.proofs.write.headers.Goals as goal

pub push_segment_header-requires : goal.push_segment_header-requires
push_segment_header-requires c =
    (omega arith, (omega (arith, c.push_header.ensures.len, ap length c.new-out.ensures, ap option_words c.requires.bare), c.requires.writable))

pub returns-clause-octets : goal.returns-clause-octets
returns-clause-octets c =
    let p = packet_value c.args.packet.now in
    rw (c.push_segment_header.ensures.items, c.push_header.ensures.items, c.new-out.ensures)
    (append_assoc (header_with (header_checksum p) p) (segment_header (segment_checksum p) p) p.text)

pub returns-clause-len : goal.returns-clause-len
returns-clause-len c =
    omega (arith, c.push_segment_header.ensures.len, c.push_header.ensures.len, ap length c.new-out.ensures, ap option_words c.requires.bare)
