use Rattle.cf_policylang.proofs.Kept.{answer_within}
use Rattle.cf_policylang.proofs.documents.read_policy.Goals as goal

pub returns-clause-within : goal.returns-clause-within
returns-clause-within c = answer_within c.args.bytes.now c.text_meaning.result c.text_meaning.ensures
