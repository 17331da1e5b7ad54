use Rattle.std.proofs.Common.{refl}
use Rattle.cf_lane.proofs.Histories.{follows_new}
use Rattle.cf_lane.proofs.Units.{nothing_unit}
use Rattle.cf_lane.proofs.lane.Lane.new.Goals as goal

pub returns-clause-follows : goal.returns-clause-follows
returns-clause-follows c = λ before to_client to_controller first left.
    follows_new c.args.site.now before (nothing_unit c.args.site.now.first.protocol) _ refl refl (c.in_ok-rules.ensures.knows before left) (c.in_ok-wire.ensures.knows c.args.site.now)
    to_client to_controller first
