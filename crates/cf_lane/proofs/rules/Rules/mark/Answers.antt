use Rattle.std.proofs.Common.{rules, nat_eq, ap, get_or, false, sym, ◌||◌, ◌∙◌}
use Rattle.cf_lane.specs.Rates.{is_place}
use Rattle.cf_lane.specs.Ring.{RingValue}
use Rattle.std.specs.List.{position}
use Rattle.cf_lane.proofs.Rated.{marked, ring_place_is}
use Rattle.cf_lane.proofs.rules.Rules.mark.Goals as goal

pub returns-in-Some-clause-marks : goal.returns-in-Some-clause-marks
returns-in-Some-clause-marks c = λ place.
    marked c.args.used.now c.in-Some.place place (search rules)
    ∙ ap (λ o. is_place place o || get_or c.args.used.now place false)
    (sym c.in-Some.is ∙ c.ring_place.ensures ∙ ap (position (λ (r : RingValue). nat_eq r.rule c.args.number)) c.deref.ensures.value
    ∙ sym (ring_place_is c.args.self.now.rings.items c.args.number))

pub returns-in_default-clause-marks : goal.returns-in_default-clause-marks
returns-in_default-clause-marks c = λ place.
    ap (λ o. is_place place o || get_or c.args.used.now place false)
    (sym c.in_default.is ∙ c.ring_place.ensures ∙ ap (position (λ (r : RingValue). nat_eq r.rule c.args.number)) c.deref.ensures.value
    ∙ sym (ring_place_is c.args.self.now.rings.items c.args.number))
