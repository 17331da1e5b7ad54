-- A true answer is the only true one.
use Rattle.cf_view.proofs.Framing.{unit_only, more_only, broken_only}
use Rattle.cf_apci.specs.Apdu.{apdu_value, SpellsApdu, apdu_break}
use Rattle.cf_apci.proofs.Fronts.{apdus_free}
use Rattle.cf_apci.proofs.apdu.next_apdu.Goals as goal

pub returns-clause-unit : goal.returns-clause-unit
returns-clause-unit c = unit_only SpellsApdu apdu_break apdu_value apdus_free c.front.result c.args.bytes.bytes c.front.ensures

pub returns-clause-more : goal.returns-clause-more
returns-clause-more c = more_only SpellsApdu apdu_break apdu_value apdus_free c.front.result c.args.bytes.bytes c.front.ensures

pub returns-clause-broken : goal.returns-clause-broken
returns-clause-broken c = broken_only SpellsApdu apdu_break apdu_value apdus_free c.front.result c.args.bytes.bytes c.front.ensures
