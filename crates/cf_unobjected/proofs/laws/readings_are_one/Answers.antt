use Rattle.std.proofs.Common.{[]}
use Rattle.cf_unobjected.proofs.OneReading.{one_reading}
use Rattle.cf_unobjected.proofs.laws.readings_are_one.Goals as goal

pub returns : goal.returns
returns c asset client bytes born js ks ending other h g = one_reading asset client [] bytes born js ks ending other h g
