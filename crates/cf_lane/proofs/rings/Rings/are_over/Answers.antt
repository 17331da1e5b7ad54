use Rattle.std.proofs.Common.{ap, ◌∙◌}
use Rattle.cf_lane.proofs.Starting.{over_all}
use Rattle.cf_lane.specs.Over.{are_over, own_are_over}
use Rattle.cf_lane.specs.declared.rules.Rules.{Rules}
use Rattle.std.specs.List.{list_all}
use Rattle.cf_lane.proofs.rings.Rings.are_over.Goals as goal

pub returns : goal.returns
returns c =
    c.all_are_over.ensures ∙ ap (list_all (λ (r : Rules). own_are_over c.args.moment r.rings.items)) c.as_slice.ensures.value ∙ over_all c.args.moment c.self.inside.rules.items
    ∙ ap (are_over c.args.moment) c.self.view_is
