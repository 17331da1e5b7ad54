use Rattle.cf_serve.proofs.Flooding.{bounded}
use Rattle.cf_serve.proofs.laws.floods_are_bounded.Goals as goal

pub returns : goal.returns
returns c = record { bounded = bounded }
