use Rattle.cf_unobjected.proofs.ShortestFront.{fronts, shortest}
use Rattle.cf_unobjected.proofs.laws.objections_are_of_shortest_fronts.Goals as goal

pub returns : goal.returns
returns c = record { fronts = fronts; shortest = shortest }
