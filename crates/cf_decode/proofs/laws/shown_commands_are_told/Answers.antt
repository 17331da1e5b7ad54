use Rattle.cf_decode.proofs.Telling.{are_shown}
use Rattle.cf_decode.proofs.laws.shown_commands_are_told.Goals as goal

pub returns : goal.returns
returns c = are_shown
