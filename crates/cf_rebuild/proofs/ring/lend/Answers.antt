use Rattle.std.proofs.Common.{arith}
use Rattle.cf_rebuild.proofs.Places.{full_whole, lent_one}
use Rattle.cf_rebuild.proofs.ring.lend.Goals as goal
use Rattle.std.proofs.lemmas.Grind.{common_steps}

pub returns-then-stop-le-PLACES-clause-bytes : goal.returns-then-stop-le-PLACES-clause-bytes
returns-then-stop-le-PLACES-clause-bytes c =
    grind (arith, common_steps, lent_one c.args.bytes.now c.args.start c.args.ready c.requires.slots.0 c.requires.inside.0 (omega (arith, c.requires.slots.1)))

pub returns-clause-bytes : goal.returns-clause-bytes
returns-clause-bytes c = grind (arith, common_steps, full_whole c.args.bytes.now (omega (arith, c.requires.slots)))
