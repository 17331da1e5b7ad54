use Rattle.cf_dnptrans.proofs.History.{answer_stands, stands_after}
use Rattle.cf_dnptrans.proofs.assembly.Assembly.segment.Goals as goal

pub returns-clause-answer : goal.returns-clause-answer
returns-clause-answer c = λ es h. answer_stands _ _ _ _ c.take.ensures es h

pub returns-clause-stands : goal.returns-clause-stands
returns-clause-stands c = λ es h. stands_after _ _ _ _ c.take.ensures es h
