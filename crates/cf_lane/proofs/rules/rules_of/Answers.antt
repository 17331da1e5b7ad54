use Rattle.std.proofs.Common.{List, Option, [], ap, length, rules, subst, sym, ◌∙◌, ◌≡◌}
use Rattle.std.proofs.lemmas.List.{length-map}
use Rattle.std.proofs.lemmas.Result.{IfOk-weaker}
use Rattle.cf_lane.proofs.Starting.{left_known, unused_known, whole_back}
use Rattle.cf_lane.specs.Ring.{RingValue}
use Rattle.cf_lane.specs.Rings.{AreRingsOf, AreRulesOf, IsLeft, KnowRings, KnowsRules, rings_in}
use Rattle.std.specs.Prelude.{IfSome}
use Rattle.cf_lane.specs.declared.rules.Rules.{Rules}
use Rattle.cf_lane.proofs.rules.rules_of.Goals as goal

pub returns-in_ok-take_all_over-in-Some-clause-knows : goal.returns-in_ok-take_all_over-in-Some-clause-knows
returns-in_ok-take_all_over-in-Some-clause-knows c = λ before h.
    (let new = c.take_all_over.new.all in
    let old = c.left.inside.rules.items in
    let lent : c.as_mut_slice.result.now ≡ old = c.as_mut_slice.ensures.value in
    let rings : rings_in new ≡ rings_in old = c.in_ok-take_all_over-in-Some.ensures.rings ∙ ap rings_in lent in
    let same : length new ≡ length old = sym (length-map new (λ (r : Rules). r.rings.items)) ∙ ap length rings ∙ length-map old (λ (r : Rules). r.rings.items) in
    let size : c.left.inside.rules.len ≡ length old = search rules in
    let kept = subst (λ (o : Option (List (List RingValue))). IsLeft o before) c.in-Some.is h in
    subst (λ all. KnowsRules c.args.site.now before all []) (sym (whole_back c.left.inside.rules.len new old size same))
    (left_known c.args.site.now before new (subst (λ rs. KnowRings rs before) (sym (rings ∙ c.left.view_is)) kept)))

pub returns-in-None-clause-knows : goal.returns-in-None-clause-knows
returns-in-None-clause-knows c =
    IfOk-weaker c.new_rules.result _ _ (λ all unused before h.
    (let none = subst (λ (o : Option (List (List RingValue))). IsLeft o before) c.in-None.is h in unused_known c.args.site.now before all.items none unused))
    c.new_rules.ensures.knows

pub take_all_over-requires-clause-rings : goal.take_all_over-requires-clause-rings
take_all_over-requires-clause-rings c =
    let lent : c.as_mut_slice.result.now ≡ c.left.inside.rules.items = c.as_mut_slice.ensures.value in
    subst (AreRingsOf c.args.site.now) (sym (ap rings_in lent ∙ c.left.view_is)) (subst (λ (o : Option (List (List RingValue))). IfSome o (AreRingsOf c.args.site.now)) c.in-Some.is c.requires.left)

pub returns-in_ok-take_all_over-in-Some-clause-of_site : goal.returns-in_ok-take_all_over-in-Some-clause-of_site
returns-in_ok-take_all_over-in-Some-clause-of_site c =
    let new = c.take_all_over.new.all in
    let old = c.left.inside.rules.items in
    let lent : c.as_mut_slice.result.now ≡ old = c.as_mut_slice.ensures.value in
    let rings : rings_in new ≡ rings_in old = c.in_ok-take_all_over-in-Some.ensures.rings ∙ ap rings_in lent in
    let same : length new ≡ length old = sym (length-map new (λ (r : Rules). r.rings.items)) ∙ ap length rings ∙ length-map old (λ (r : Rules). r.rings.items) in
    let size : c.left.inside.rules.len ≡ length old = search rules in
    subst (AreRulesOf c.args.site.now c.args.client) (sym (whole_back c.left.inside.rules.len new old size same)) c.in_ok-take_all_over-in-Some.ensures.of_site
