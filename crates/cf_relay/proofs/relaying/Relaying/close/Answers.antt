use Rattle.std.proofs.Common.{◌∷◌, []}
use Rattle.cf_lane.specs.Handled.{HasAdded, MayHaveAdded}
use Rattle.cf_relay.proofs.Ending.{close_as}
use Rattle.cf_relay.proofs.relaying.Relaying.close.Goals as goal

pub returns-in-Ok-clause-closes : goal.returns-in-Ok-clause-closes
returns-in-Ok-clause-closes g c = (
  c.done.ensures,
  close_as (λ l. HasAdded (l ∷ []) (g.D.Desk.value c.args.desk.now) (g.D.Desk.value c.log_line.new.desk))
      c.args.site.now c.args.client c.args.self.now.moment c.admitted.ensures c.refused.ensures c.in-Ok.ensures.lines,
  c.in-Ok.ensures.whole,
)

pub returns-in-Err-clause-closes : goal.returns-in-Err-clause-closes
returns-in-Err-clause-closes g c =
    close_as (λ l. MayHaveAdded (l ∷ []) (g.D.Desk.value c.args.desk.now) (g.D.Desk.value c.log_line.new.desk))
    c.args.site.now c.args.client c.args.self.now.moment c.admitted.ensures c.refused.ensures c.in-Err.ensures.fails
