use Rattle.std.proofs.Common.{rules, arith, eqb-true, false, length, replicate, ◌≡◌, ◌∙◌, ◌∷◌, [], ap, refl, sym}
use Rattle.std.specs.Prelude.{None}
use Rattle.std.specs.Vec.{vec_len}
use Rattle.cf_lane.specs.Acts.{by_refusal, fate_of_acts, refusal_or, shown_by}
use Rattle.cf_lane.proofs.ActsShown.{or_none}
use Rattle.std.specs.Option.{option_or}
use Rattle.cf_policy.specs.declared.Verdict.TheVariants as verdict
use Rattle.cf_lane.specs.Judgement.{fate_of_judgement}
use Rattle.cf_lane.specs.Rings.{says_by}
use Rattle.cf_lane.specs.Modbus.{of_its_acts}
use Rattle.cf_lane.proofs.Unrated.{fate_without_rates}
use Rattle.cf_lane.proofs.fate.judge.Goals as goal

pub returns-then-not-is_empty-clause-fate : goal.returns-then-not-is_empty-clause-fate
returns-then-not-is_empty-clause-fate c = λ client is.
    (let station : c.args.adu.now.unit ≡ c.args.asset.now.station = cc in
    let one = c.judge_acts.ensures.fate client (c.in-Some.act ∷ []) is refl (λ i act inside gives. search rules) in
    of_its_acts station c.in-Some.ensures.0 c.in-Some.ensures.1
    (one ∙ ap (fate_of_acts c.args.asset.now (says_by c.args.asset.now client c.args.rules.now c.args.moment)) (sym c.in-Some.ensures.2)))

pub returns-in-Allow-clause-fate : goal.returns-in-Allow-clause-fate
returns-in-Allow-clause-fate c = λ client is.
    (let station : c.args.adu.now.unit ≡ c.args.asset.now.station = cc in
    let rings = c.args.rules.now.rings in
    let no_ring : length rings.items ≡ 0 = omega (arith, rings.ok.0, eqb-true (vec_len rings) 0 (sym c.if-not-is_empty.ensures)) in
    let one = ap fate_of_judgement c.admitted_by.ensures.admitted
    ∙ ap (λ x. by_refusal (record { used = replicate 16 false; shown = x }) None) (sym (or_none (shown_by c.args.asset.now.rules c.in-Some.act (verdict.Allow c.in-Allow.number))))
    ∙ ap (λ v. by_refusal (record { used = replicate 16 false; shown = option_or (shown_by c.args.asset.now.rules c.in-Some.act v) None }) (refusal_or c.in-Some.act v None)) (c.in-Allow.ensures.decides client is.index)
    ∙ fate_without_rates c.args.asset.now client c.args.rules.now c.args.moment (c.in-Some.act ∷ []) is no_ring in
    of_its_acts station c.in-Some.ensures.0 c.in-Some.ensures.1
    (one ∙ ap (fate_of_acts c.args.asset.now (says_by c.args.asset.now client c.args.rules.now c.args.moment)) (sym c.in-Some.ensures.2)))

pub returns-in-Refuse-clause-fate : goal.returns-in-Refuse-clause-fate
returns-in-Refuse-clause-fate c = λ client is.
    (let station : c.args.adu.now.unit ≡ c.args.asset.now.station = cc in
    let rings = c.args.rules.now.rings in
    let no_ring : length rings.items ≡ 0 = omega (arith, rings.ok.0, eqb-true (vec_len rings) 0 (sym c.if-not-is_empty.ensures)) in
    let one = ap (λ v. by_refusal (record { used = replicate 16 false; shown = option_or (shown_by c.args.asset.now.rules c.in-Some.act v) None }) (refusal_or c.in-Some.act v None)) (c.in-Refuse.ensures.decides client is.index)
    ∙ fate_without_rates c.args.asset.now client c.args.rules.now c.args.moment (c.in-Some.act ∷ []) is no_ring in
    of_its_acts station c.in-Some.ensures.0 c.in-Some.ensures.1
    (one ∙ ap (fate_of_acts c.args.asset.now (says_by c.args.asset.now client c.args.rules.now c.args.moment)) (sym c.in-Some.ensures.2)))
