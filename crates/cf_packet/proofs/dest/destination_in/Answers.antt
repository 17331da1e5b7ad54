use Rattle.std.proofs.Common.{◌≡◌, ◌∙◌, ap, arith, refl}
use Rattle.cf_packet.specs.Ipv4.{header_length, total_length}
use Rattle.cf_packet.proofs.Addressed.{headers_inside, port_at}
use Rattle.cf_packet.proofs.dest.destination_in.Goals as goal

pub returns-then-packet-segment_at : goal.returns-then-packet-segment_at
returns-then-packet-segment_at c h bad =
    let packet = c.args.packet.now in
    let inside = headers_inside packet h bad in
    let place : c.header_length-segment_at.result ≡ header_length packet = c.header_length-segment_at.ensures.value ∙ ap header_length c.one-fields.ensures.bytes in
    absurd (omega (arith, inside, place))

pub returns : goal.returns
returns c h bad =
    let packet = c.args.packet.now in
    let inside = headers_inside packet h bad in
    let bytes = c.one-fields.ensures.bytes in
    let place : c.header_length-segment_at.result ≡ header_length packet = c.header_length-segment_at.ensures.value ∙ ap header_length bytes in
    let port = port_at packet (header_length packet) (total_length packet) (omega (arith, inside)) in
    rw (c.u32_be.ensures, c.u16_be.ensures.value, bytes, place, port) refl
