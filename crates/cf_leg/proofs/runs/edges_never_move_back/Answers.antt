use Rattle.cf_leg.proofs.Edges.{edges_up}
use Rattle.cf_leg.proofs.runs.edges_never_move_back.Goals as goal

pub returns : goal.returns
returns c = record { base = λ ends e es a. (edges_up ends e es a).0; edge = λ ends e es a. (edges_up ends e es a).1 }
