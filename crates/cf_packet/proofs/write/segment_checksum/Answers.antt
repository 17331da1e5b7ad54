use Rattle.std.proofs.Common.{◌++◌, ◌≤◌, refl, arith}
use Rattle.cf_packet.specs.Packet.{packet_value}
use Rattle.cf_packet.specs.Tcp.{pseudo_header}
use Rattle.cf_packet.specs.Written.{segment_with, segment_length}
use Rattle.cf_packet.proofs.Written.{segment_octets, segment_total, few_words}
use Rattle.cf_packet.proofs.PseudoHeader.{pseudo_octets}
use Rattle.cf_packet.proofs.write.segment_checksum.Goals as goal

pub returns-clause-ranges : goal.returns-clause-ranges
returns-clause-ranges c =
    record {
      source_address = omega arith;
      source_port = omega arith;
      dest_address = omega arith;
      dest_port = omega arith;
      seq = omega arith;
      ack = omega arith;
      window = omega arith;
      mss = c.header_sum.ensures.mss;
      text = c.gathered.ensures.octets;
    }

pub returns-clause-value : goal.returns-clause-value
returns-clause-value c =
    let p = packet_value c.args.packet.now in
    let r = returns-clause-ranges c in
    let few = few_words p.mss in
    let short : segment_length p ≤ 65535 = omega (arith, c.requires.short) in
    let g = c.gathered.ensures.gathers in
    let octets = pseudo_octets p.source.address p.dest.address (segment_length p) (segment_with 0 p) r.source_address r.dest_address short (segment_octets p c.requires 0 (omega arith) r) in
    let all = segment_total p 0 in
    let e = c.folded.ensures (pseudo_header p.source.address p.dest.address (segment_length p) ++ segment_with 0 p) octets (record { carries = g.carries; value = omega (arith, all); few = omega (arith, all) }) in
    rw e refl
