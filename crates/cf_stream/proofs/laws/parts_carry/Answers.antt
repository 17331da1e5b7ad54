use Rattle.cf_stream.proofs.Letters.{letters-part}
use Rattle.cf_stream.proofs.laws.parts_carry.Goals as goal

pub returns-clause-letters : goal.returns-clause-letters
returns-clause-letters c = letters-part
