use Rattle.cf_leg.proofs.Streams.{along_run}
use Rattle.cf_leg.proofs.runs.nothing_passes_the_edge.Goals as goal

pub returns : goal.returns
returns c = λ ends es whole r. (along_run ends es whole r).below
