use Rattle.std.proofs.Common.{arith}
use Rattle.std.proofs.lemmas.Option.{IfSome_then}
use Rattle.cf_covered.proofs.search.settled_part.Goals as goal

pub returns-in-Some-clause-settled : goal.returns-in-Some-clause-settled
returns-in-Some-clause-settled c = λ client act same inside has. let lacks = c.in-Some.ensures.lacked client act in grind arith

pub returns-in-None-clause-settled : goal.returns-in-None-clause-settled
returns-in-None-clause-settled c =
    IfSome_then c.shared_part.result c.shared_part.ensures.shared (λ part shared client act same inside has. shared client act same (grind arith))
