use Rattle.cf_asdu.proofs.Readings.{one_asdu}
use Rattle.cf_asdu.proofs.asdu.no_octets_are_two_asdus.Goals as goal

pub returns : goal.returns
returns c = one_asdu
