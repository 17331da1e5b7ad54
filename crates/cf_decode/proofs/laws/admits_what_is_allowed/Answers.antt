use Rattle.cf_decode.proofs.Commands.{admits_allowed}
use Rattle.cf_decode.proofs.laws.admits_what_is_allowed.Goals as goal

pub returns : goal.returns
returns c = admits_allowed
