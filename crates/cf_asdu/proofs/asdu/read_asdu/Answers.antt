use Rattle.cf_asdu.proofs.Readings.{one_reading}
use Rattle.cf_asdu.proofs.asdu.read_asdu.Goals as goal

pub returns-clause-only : goal.returns-clause-only
returns-clause-only c = λ answer reads. one_reading _ answer c.args.octets.bytes c.asdu_in.ensures reads
