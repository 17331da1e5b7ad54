use Rattle.cf_renumber.proofs.Counting.{stands_admitted, stamp_controller}
use Rattle.cf_renumber.proofs.Runs.{did_admit}
use Rattle.cf_renumber.proofs.numbers.Numbers.admitted.Goals as goal
use Rattle.std.proofs.lemmas.Grind.{common_steps}
use Rattle.std.proofs.Common.{arith}

pub returns-clause-stamp : goal.returns-clause-stamp
returns-clause-stamp c = grind (arith, common_steps, stamp_controller)

pub returns-clause-stands : goal.returns-clause-stands
returns-clause-stands c = λ events nr w. rw c.take_admitted.ensures (stands_admitted c.args.self.now events nr w)

pub returns-clause-did : goal.returns-clause-did
returns-clause-did c = did_admit _ _ _ (returns-clause-stamp c) (returns-clause-stands c)
