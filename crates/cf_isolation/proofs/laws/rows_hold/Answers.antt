use Rattle.cf_isolation.proofs.Worked.{rows_hold}
use Rattle.cf_isolation.proofs.WorkedFile.{file_rows_hold}
use Rattle.cf_isolation.proofs.laws.rows_hold.Goals as goal

pub returns : goal.returns
returns c = record { sessions = rows_hold; file = file_rows_hold c.octets_have_one_list_of_records.ensures.one }
