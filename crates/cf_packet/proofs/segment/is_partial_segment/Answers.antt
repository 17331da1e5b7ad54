use Rattle.std.proofs.Common.{◌≡◌, [], length, refl, arith}
use Rattle.cf_packet.specs.Checksum.{words, ones_sum}
use Rattle.cf_packet.specs.Tcp.{pseudo_header}
use Rattle.cf_packet.proofs.PseudoHeader.{octets_none, pseudo_octets}
use Rattle.cf_packet.proofs.segment.is_partial_segment.Goals as goal

pub returns : goal.returns
returns c =
    let size = length c.args.segment.now in
    let pseudo = pseudo_header c.args.source c.args.dest size in
    let octets = pseudo_octets c.args.source c.args.dest size [] c.ranges.source.fits c.ranges.dest.fits c.requires.short octets_none in
    let sum = c.pseudo_sum-pseudo.ensures.value in
    let e : c.folded.result ≡ ones_sum (words pseudo) = c.folded.ensures pseudo octets (record { carries = 0; value = omega (arith, sum); few = omega arith }) in
    rw (c.u16_be.ensures.value, c.one.ensures.bytes, e) refl
