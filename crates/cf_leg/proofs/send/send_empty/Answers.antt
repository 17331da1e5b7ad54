use Rattle.std.proofs.Common.{◌∙◌, ◌++◌, ap, sym}
use Rattle.std.proofs.lemmas.List.{append-nil}
use Rattle.cf_packet.specs.Packet.{PacketValue}
use Rattle.cf_packet.specs.Written.{packet_octets}
use Rattle.cf_stream.specs.Stream.{no_letters}
use Rattle.cf_leg.specs.Segment.{segment}
use Rattle.cf_leg.proofs.send.send_empty.Goals as goal

pub returns-clause-gets : goal.returns-clause-gets
returns-clause-gets g c =
    let head = c.headers-headers.result.items in
    let none = ap (λ (p : PacketValue). head ++ p.text) c.segment.ensures in
    c.emit.ensures.gets (segment c.args.way c.args.told c.args.number no_letters)
    (c.as_slice.ensures.value ∙ sym (append-nil head) ∙ sym none ∙ c.headers-headers.ensures.octets ∙ ap packet_octets c.segment.ensures)
