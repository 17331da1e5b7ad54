use Rattle.std.proofs.Common.{ap, arith, drop, length, sym, take, ◌+◌, ◌++◌, ◌-◌, ◌∙◌, ◌≡◌}
use Rattle.std.proofs.lemmas.Slice.{between-put_mid}
use Rattle.cf_packet.specs.Packet.{PacketValue, packet_value}
use Rattle.cf_packet.specs.Written.{packet_octets}
use Rattle.cf_stream.specs.Position.{place_or_zero, sequence_number}
use Rattle.cf_leg.specs.Segment.{segment}
use Rattle.cf_leg.proofs.Pieces.{headed}
use Rattle.cf_leg.proofs.send.write_piece.Goals as goal

pub returns-clause-octets : goal.returns-clause-octets
returns-clause-octets c =
    let piece = c.args.piece in
    let text = c.copy.new.out in
    let head = c.headers-headers.result.items in
    let number = c.sequence_number-number.ensures ∙ ap (sequence_number c.args.way.own) c.place_of.ensures in
    let text_is = between-put_mid 40 (40 + piece.len - 40) c.args.out.now text (40 + piece.len) (omega arith) (omega arith) in
    let old = c.args.out.now in
    let filled = take 40 old ++ (text ++ drop (40 + piece.len - 40) (drop 40 old)) in
    let front : c.as_slice.result.now ≡ head = c.as_slice.ensures.value in
    let long : length c.as_slice.result.now ≡ 40 = ap length front ∙ c.headers-headers.ensures.len in
    let is : packet_value c.segment.result ≡ segment c.args.way c.args.told (sequence_number c.args.way.own (place_or_zero piece.at)) (record { bytes = text; ended = piece.end }) =
    c.segment.ensures ∙ ap (λ xs. segment c.args.way c.args.told c.sequence_number-number.result (record { bytes = xs; ended = piece.end })) text_is
    ∙ ap (λ n. segment c.args.way c.args.told n (record { bytes = text; ended = piece.end })) number in (
      text,
      c.copy.ensures.stands,
      ap (take (40 + piece.len)) (c.put_front.ensures ∙ ap (λ n. c.as_slice.result.now ++ drop n filled) long)
          ∙ headed c.as_slice.result.now filled text piece.len long text_is ∙ ap (λ xs. xs ++ text) front
          ∙ ap (λ (p : PacketValue). head ++ p.text) (sym is)
          ∙ c.headers-headers.ensures.octets ∙ ap packet_octets is,
    )
