use Rattle.cf_isolation.proofs.Filing.{alike_in_records, captures_hold, captures_isolated, captures_own, captures_to_the_next}
use Rattle.cf_isolation.proofs.Theirs.{each_has_a_life}
use Rattle.cf_isolation.proofs.laws.captures_hold_sessions.Goals as goal

pub returns : goal.returns
returns c =
    let law = c.sessions_are_right.ensures in
    let back = c.runs_are_read_back.ensures in
    let one_list = c.octets_have_one_list_of_records.ensures.one in
    let held = captures_hold law back one_list in
    let owned = captures_own law back one_list in
    record {
      records = held;
      records_to_the_next = captures_to_the_next law back one_list;
      isolated = captures_isolated held c.runs_isolate_sessions.ensures;
      lives = each_has_a_life;
      owned = owned;
      alike = alike_in_records c.events_are_fixed.ensures law owned;
    }
