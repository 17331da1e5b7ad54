use Rattle.cf_renumber.proofs.Runs.{runs}
use Rattle.cf_renumber.proofs.laws.every_numbers_run.Goals as goal

pub returns : goal.returns
returns c = record { answers = λ calls v r o. (runs calls v r o).1; stands = λ calls v r o. (runs calls v r o).0 }
