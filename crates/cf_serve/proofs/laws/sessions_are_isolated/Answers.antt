use Rattle.cf_serve.proofs.Alone.{each_alone, isolates}
use Rattle.cf_serve.proofs.laws.sessions_are_isolated.Goals as goal

pub returns-clause-alone : goal.returns-clause-alone
returns-clause-alone c = each_alone c.has_one_judgement.ensures

pub returns-clause-isolates : goal.returns-clause-isolates
returns-clause-isolates c = isolates c.has_one_judgement.ensures
