use Rattle.cf_decode.proofs.Telling.{are_told}
use Rattle.cf_decode.proofs.laws.refused_commands_are_told.Goals as goal

pub returns : goal.returns
returns c = are_told
