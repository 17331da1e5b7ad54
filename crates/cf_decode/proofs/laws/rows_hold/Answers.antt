use Rattle.cf_decode.proofs.Worked.{rows_hold, told_rows_hold}
use Rattle.cf_decode.proofs.laws.rows_hold.Goals as goal

pub returns : goal.returns
returns c = record { stream = rows_hold; told = told_rows_hold }
