use Rattle.cf_apci.proofs.Fronts.{apdus_free}
use Rattle.cf_apci.proofs.apdu.no_apdu_begins_another.Goals as goal

pub returns : goal.returns
returns c = apdus_free
