use Rattle.std.proofs.Common.{[]}
use Rattle.cf_decode.specs.Passed.{passed}
use Rattle.cf_unobjected.proofs.Beginnings.{unobjected}
use Rattle.cf_unobjected.proofs.Right.{all_right}
use Rattle.cf_unobjected.proofs.laws.beginnings_are_unobjected.Goals as goal

pub returns : goal.returns
returns c site client h js bytes more born are out =
    unobjected c.first_segments_make_the_first_fragments.ensures c.user_octets_come_back.ensures site client.address (passed site js) bytes born (all_right site client [] js are.fates)
    (c.stream_decodes.ensures.decodes site client h js bytes more are out)
