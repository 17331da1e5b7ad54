use Rattle.std.proofs.Common.{ap, option_map, suc, sym, ◌∙◌}
use Rattle.cf_lane.proofs.Places.{behind_none, behind_some, find_position}
use Rattle.cf_lane.specs.Site.{or_first}
use Rattle.cf_lane.proofs.site.place_behind.Goals as goal

pub returns-in-Some-clause-place : goal.returns-in-Some-clause-place
returns-in-Some-clause-place c =
    behind_some c.in-Some.behind _ c.in-Some.is ∙ ap (λ o. or_first (option_map suc o)) (c.position_of_station.ensures.position ∙ sym (find_position _ c.args.others.now))

pub returns-in-None-clause-place : goal.returns-in-None-clause-place
returns-in-None-clause-place c =
    behind_none _ c.in-None.is ∙ ap (λ o. or_first (option_map suc o)) (c.position_of_station.ensures.position ∙ sym (find_position _ c.args.others.now))
