use Rattle.std.proofs.Common.{ap, arith, drop, length, take, ◌*◌, ◌-◌, ◌∙◌, ◌∷◌, ◌≡◌, ◌≤◌}
use Rattle.std.proofs.lemmas.List.{length-take}
use Rattle.cf_dnptrans.specs.Segments.{segment_of}
use Rattle.cf_lane.specs.Dnp3.{data_octets}
use Rattle.cf_lane.proofs.Recutting.{segment_part}
use Rattle.cf_lane.proofs.dnp3.recut.write_segment.Goals as goal
use Rattle.cf_lane.proofs.dnp3.recut.write_segment.Goals.{After-two}

-- the user octets of the frame are those of the segment
segment_is : (c : After-two) → c.two.result.bytes ≡ segment_of c.args.octets.now c.args.sequence c.args.i
segment_is c =
    let xs = c.args.octets.now in
    let from = 249 * c.args.i in
    let inside : from ≤ length xs = omega (arith, c.requires.inside) in
    c.two.ensures.bytes
    ∙ ap (λ to. c.segment_octet.result ∷ take (to - from) (drop from xs)) c.min.ensures
    ∙ ap (λ ys. c.segment_octet.result ∷ ys) (segment_part xs from inside)
    ∙ ap (λ octet. octet ∷ take 249 (drop from xs)) c.segment_octet.ensures

pub write_data-requires : goal.write_data-requires
write_data-requires c = omega (arith, ap length (segment_is (goal.at.write_data-requires c).After-two), length-take 249 (drop (249 * c.args.i) c.args.octets.now))

pub returns : goal.returns
returns c = c.write_data.ensures ∙ ap (data_octets c.args.asset.now c.args.to) (segment_is (goal.at.returns c).After-two)
