use Rattle.cf_renumber.proofs.Window.{one_for_client, one_for_controller}
use Rattle.cf_renumber.proofs.laws.one_count_in_every_run.Goals as goal

pub returns : goal.returns
returns c = record { of_client = one_for_client; of_controller = one_for_controller }
