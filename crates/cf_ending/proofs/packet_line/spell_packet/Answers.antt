use Rattle.std.proofs.Common.{codes, drop}
use Rattle.cf_packet.specs.Packet.{packet_value}
use Rattle.cf_view.specs.Text.{endpoint_text}
use Rattle.cf_ending.specs.PacketLine.{fields_text, flags_text}
use Rattle.cf_ending.proofs.Spelled.{six_joined}
use Rattle.cf_ending.proofs.packet_line.spell_packet.Goals as goal

pub returns-clause-written : goal.returns-clause-written
returns-clause-written c =
    let packet = packet_value c.args.packet.now in
    six_joined (endpoint_text packet.source) (codes " > ") (endpoint_text packet.dest) (codes " ") (flags_text packet.flags) (fields_text packet)
    (drop c.args.end c.args.out.now) c.spell_fields-at.ensures.written c.spell_flags-at.ensures.written c.spell_text-at.ensures.written
    c.spell_endpoint-at.ensures.written c.spell_text-at-2.ensures.written c.spell_endpoint.ensures.written
