use Rattle.cf_learn.proofs.OwnUnits as own
use Rattle.cf_learn.proofs.laws.shows_own_units.Goals as goal

pub returns : goal.returns
returns c = own.shows_own_units
