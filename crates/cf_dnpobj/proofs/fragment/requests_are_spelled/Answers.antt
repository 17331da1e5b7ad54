use Rattle.cf_dnpobj.proofs.Grammar.{read_is_spelled}
use Rattle.cf_dnpobj.proofs.fragment.requests_are_spelled.Goals as goal

pub returns : goal.returns
returns c = read_is_spelled
