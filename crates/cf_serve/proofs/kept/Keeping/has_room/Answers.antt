use Rattle.std.proofs.Common.{subst, sym}
use Rattle.cf_serve.specs.Keeping.{AreSingle}
use Rattle.cf_serve.specs.Lending.{Drops}
use Rattle.cf_serve.proofs.Keyed.{drops_over}
use Rattle.cf_serve.proofs.kept.Keeping.has_room.Goals as goal

pub returns-clause-drops : goal.returns-clause-drops
returns-clause-drops c =
    subst (Drops c.args.moment c.args.self.now) (sym c.drop_over.ensures)
    (drops_over c.args.moment c.args.self.now (subst AreSingle c.self.view_is c.self.invariant.0))
