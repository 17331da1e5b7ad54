use Rattle.cf_unobjected.proofs.Rows.{rows_hold}
use Rattle.cf_unobjected.proofs.WorkedRun.{run_rows_hold}
use Rattle.cf_unobjected.proofs.laws.rows_hold.Goals as goal

pub returns : goal.returns
returns c = record { flows = rows_hold c.judgements_are_one.ensures.judgements; run = run_rows_hold }
