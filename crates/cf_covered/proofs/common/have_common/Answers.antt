use Rattle.std.proofs.Common.{arith}
use Rattle.cf_covered.proofs.RegionActs.{common}
use Rattle.cf_covered.proofs.common.have_common.Goals as goal

pub returns-clause-none : goal.returns-clause-none
returns-clause-none c = λ none client act has. let both = common c.args.rule.now c.args.other.now client act has in grind arith
