use Rattle.cf_records.proofs.RecordLists.{have_records, have_timed_records, one_list, one_timed_list}
use Rattle.cf_records.proofs.laws.octets_have_one_list_of_records.Goals as goal

pub returns : goal.returns
returns c = record { some = have_records; one = one_list; some_timed = have_timed_records; one_timed = one_timed_list }
