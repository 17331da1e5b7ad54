use Rattle.std.proofs.Common.{◌∙◌, ap, sym, subst}
use Rattle.cf_rebuild.specs.ReceiveWindow.{IsWindowOf}
use Rattle.cf_leg.specs.LegValue.{LegValue}
use Rattle.cf_leg.proofs.Greets.{consumed_stands}
use Rattle.cf_leg.proofs.leg.Leg.consume.Goals as goal

pub returns-clause-stands : goal.returns-clause-stands
returns-clause-stands c =
    consumed_stands c.args.self.now _ (ap (λ (l : LegValue). record l { window = c.consume.new.self }) c.self.view_is)
    (c.consume.ensures.consumes.edge ∙ ap (λ (l : LegValue). l.window.edge) c.self.view_is)
    (λ os s. c.consume.ensures.stands os (subst (λ (l : LegValue). IsWindowOf l.window os) (sym c.self.view_is) s))
