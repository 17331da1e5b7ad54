use Rattle.std.proofs.Common.{◌≡◌, ◌++◌, length, refl}
use Rattle.cf_packet.specs.Checksum.{words, ones_sum}
use Rattle.cf_packet.specs.Tcp.{pseudo_header}
use Rattle.cf_packet.proofs.PseudoHeader.{pseudo_octets, pseudo_gathers}
use Rattle.cf_packet.proofs.segment.is_right_segment.Goals as goal

pub returns : goal.returns
returns c =
    let segment = c.args.segment.now in
    let source = c.ranges.source.fits in
    let dest = c.ranges.dest.fits in
    let octets = pseudo_octets c.args.source c.args.dest (length segment) segment source dest c.requires c.gathered.ensures.octets in
    let gathers = pseudo_gathers c.args.source c.args.dest (length segment) segment source dest c.requires c.gathered.ensures.octets
    c.pseudo_sum-pseudo.result c.gathered.result c.pseudo_sum-pseudo.ensures.value c.gathered.ensures.gathers in
    let e : c.folded.result ≡ ones_sum (words (pseudo_header c.args.source c.args.dest (length segment) ++ segment)) = c.folded.ensures _ octets gathers in
    rw e refl
