use Rattle.cf_unobjected.proofs.OneFlow.{one_flow}
use Rattle.cf_unobjected.proofs.SelfJudged.{self_judged, watched_judged}
use Rattle.cf_unobjected.proofs.laws.runs_are_unobjected.Goals as goal

pub returns : goal.returns
returns c =
    let one = one_flow c.segments_carry_to_both_sides.ensures c.work_is_of_what_was_taken.ensures c.one_stream_is_seen.ensures c.beginnings_are_unobjected.ensures in
    let records = self_judged one c.sessions_are_right.ensures c.runs_are_read_back.ensures c.octets_have_one_list_of_records.ensures.one in
    record { records = records; watched = watched_judged c.runs_are_read_back.ensures records }
