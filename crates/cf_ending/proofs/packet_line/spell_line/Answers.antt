use Rattle.std.proofs.Common.{codes, decimal, drop, arith}
use Rattle.cf_packet.specs.Packet.{read_record}
use Rattle.cf_view.specs.Text.{moment_text}
use Rattle.cf_ending.specs.PacketLine.{packet_text}
use Rattle.cf_ending.proofs.Spelled.{line_joined, nothing_behind}
use Rattle.cf_ending.proofs.packet_line.spell_line.Goals as goal

pub returns-clause-line : goal.returns-clause-line
returns-clause-line c =
    line_joined (decimal c.args.number) (codes " ") (moment_text c.args.stamp) (codes " ") (packet_text (read_record c.args.link.now c.args.body.now)) (codes "\n")
    (drop 192 c.args.out.now) (nothing_behind c.args.out.now 192 (omega (arith, c.fits-out))) c.spell_text-at.ensures.written (rw c.read_packet-packet.ensures.answer at c.spell_answer-at.ensures.written)
    c.spell_text-at-2.ensures.written c.spell_moment-at.ensures.written c.spell_text-at-3.ensures.written c.spell_number.ensures.written
