use Rattle.cf_acts.proofs.OfCommands.{command_acts_in}
use Rattle.cf_acts.proofs.laws.tables_have_acts_of_commands.Goals as goal

pub returns : goal.returns
returns c = command_acts_in
