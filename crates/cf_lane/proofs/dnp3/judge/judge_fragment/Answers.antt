use Rattle.std.proofs.Common.{ap, arith, length, subst, sym, ◌-◌, ◌∙◌, ◌≡◌}
use Rattle.std.proofs.lemmas.List.{length-drop, take_all}
use Rattle.std.specs.Prelude.{slice_index}
use Rattle.cf_dnpobj.specs.Fragment.{read_octets}
use Rattle.cf_lane.proofs.Dnp3Fates.{fate_of_form}
use Rattle.cf_lane.specs.Dnp3.{IsOfFragment, fate_of_read}
use Rattle.cf_lane.specs.Fate.{HasOwnDecider}
use Rattle.cf_lane.specs.Judgement.{fate_of_judgement}
use Rattle.cf_lane.specs.Rings.{says_by}
use Rattle.cf_lane.specs.declared.fate.Judgement.{Judgement}
use Rattle.cf_lane.proofs.dnp3.judge.judge_fragment.Goals as goal

pub returns-in-Err-clause-fate : goal.returns-in-Err-clause-fate
returns-in-Err-clause-fate c = λ client is.
    (let xs = c.args.octets.now.bytes in
    let whole : c.sub.result.bytes ≡ xs = c.sub.ensures.bytes ∙ take_all (c.len.result - 0) xs (omega (arith, c.len.ensures.length)) in
    let code : c.from.result ≡ slice_index xs 1 = cc (c.from.ensures, c.at.ensures.value) in
    fate_of_form c.args.asset.now (says_by c.args.asset.now client c.args.rules.now c.args.moment) xs c.in-Err.refusal _ _ _ (c.in-Err.ensures.answer ∙ ap read_octets whole) c.form_reason.ensures.value
    code c.refused.ensures)

pub returns-in-Err-clause-fragment : goal.returns-in-Err-clause-fragment
returns-in-Err-clause-fragment c = λ client is. subst (λ (j : Judgement). IsOfFragment (fate_of_judgement j)) (sym c.refused.ensures) c.form_reason.ensures.other

pub returns-in-Err-clause-decider : goal.returns-in-Err-clause-decider
returns-in-Err-clause-decider c = subst (λ (j : Judgement). HasOwnDecider c.args.asset.now.rules (fate_of_judgement j)) (sym c.refused.ensures) tt

pub returns-in-Ok-clause-fate : goal.returns-in-Ok-clause-fate
returns-in-Ok-clause-fate c = λ client is.
    (let xs = c.args.octets.now.bytes in
    let whole : c.sub.result.bytes ≡ xs = c.sub.ensures.bytes ∙ take_all (c.len.result - 0) xs (omega (arith, c.len.ensures.length)) in
    c.judge_request.ensures.fate client is
    ∙ ap (fate_of_read c.args.asset.now (says_by c.args.asset.now client c.args.rules.now c.args.moment) (slice_index xs 1)) (c.in-Ok.ensures.answer ∙ ap read_octets whole))

pub returns-in-Ok-clause-fragment : goal.returns-in-Ok-clause-fragment
returns-in-Ok-clause-fragment c = c.judge_request.ensures.fragment

pub returns-in-Ok-clause-decider : goal.returns-in-Ok-clause-decider
returns-in-Ok-clause-decider c = c.judge_request.ensures.decider

pub judge_request-requires-clause-at_most : goal.judge_request-requires-clause-at_most
judge_request-requires-clause-at_most c =
    let xs = c.args.octets.now.bytes in
    let whole : c.sub.result.bytes ≡ xs = c.sub.ensures.bytes ∙ take_all (c.len.result - 0) xs (omega (arith, c.len.ensures.length)) in
    omega (arith, c.requires.at_most, ap length (c.in-Ok.ensures.parts.2), ap length whole, length-drop 2 c.sub.result.bytes)
