use Rattle.std.proofs.Common.{ap, arith, refl, subst, sym, take, ◌-◌, ◌∙◌, ◌≡◌}
use Rattle.cf_lane.proofs.Fronts.{few_at}
use Rattle.cf_lane.proofs.Parting.{within_at}
use Rattle.cf_lane.specs.Renumbered.{MissesApdu, TakesApdu, numbered}
use Rattle.cf_lane.specs.Rings.{IsRulesOf, says_by}
use Rattle.cf_policy.specs.Within.{IsAssetWithin}
use Rattle.cf_policy.specs.declared.Asset.{Asset}
use Rattle.cf_apci.specs.Apdu.{apdu_value}
use Rattle.cf_outside.specs.Desk.{DeskValue}
use Rattle.cf_lane.proofs.Apdus.{apdu_front, apdu_length, apdu_misses, grows_apdu}
use Rattle.cf_lane.proofs.Failing.{on_err}
use Rattle.cf_lane.proofs.Logging.{logs_none}
use Rattle.cf_lane.proofs.Taking.{grows_same, room_less}
use Rattle.cf_lane.proofs.Units.{apdus, begins_same, step_breaks, step_waits}
use Rattle.cf_lane.specs.Handled.{outlets}
use Rattle.cf_lane.proofs.iec104.take_apdu_at_front.Goals as goal

pub take_apdu-requires-clause-client_room : goal.take_apdu-requires-clause-client_room
take_apdu-requires-clause-client_room g c =
    let b = begins_same c.after.ensures.bytes c.in-Unit.ensures.true_answer in
    room_less _ _ _ (omega (arith, apdu_length _ _ _ b, b.inside)) c.requires.client_room

pub take_apdu-requires-clause-controller_room : goal.take_apdu-requires-clause-controller_room
take_apdu-requires-clause-controller_room g c =
    let b = begins_same c.after.ensures.bytes c.in-Unit.ensures.true_answer in
    room_less _ _ _ (omega (arith, apdu_length _ _ _ b, b.inside)) c.requires.controller_room

pub returns-in-More-clause-fronts : goal.returns-in-More-clause-fronts
returns-in-More-clause-fronts g c = λ admitted refused.
    (step_waits c.args.site.now (apdus c.args.site.now.first.protocol c.requires.iec104) _ _ c.after.ensures.bytes c.in-More.ensures.true_answer, refl)

pub returns-in-Broken-clause-fronts : goal.returns-in-Broken-clause-fronts
returns-in-Broken-clause-fronts g c = λ admitted refused. (
  step_breaks c.args.site.now (apdus c.args.site.now.first.protocol c.requires.iec104) _ _ c.after.ensures.bytes c.args.side c.in-Broken.reason c.in-Broken.ensures.true_answer,
  refl,
)

pub take_apdu-requires-clause-rules : goal.take_apdu-requires-clause-rules
take_apdu-requires-clause-rules g c =
    subst (λ (a : Asset). IsRulesOf a c.args.client.now.address c.rules_at.result.now) (sym c.asset.ensures) (c.requires.rules.each c.place_for_apdu-place.result c.rules_at.result.now c.rules_at.ensures)

pub take_apdu-requires-clause-within : goal.take_apdu-requires-clause-within
take_apdu-requires-clause-within g c =
    subst IsAssetWithin (sym c.asset.ensures) (within_at c.args.site.now c.requires.within c.place_for_apdu-place.result)

pub returns-in_ok-fate-in-Unit-clause-fronts : goal.returns-in_ok-fate-in-Unit-clause-fronts
returns-in_ok-fate-in-Unit-clause-fronts g c =
    let value = g.D.Desk.value in
    let site = c.args.site.now in
    let place = c.place_for_apdu-place.result in
    let own = c.rules_at.result.now in
    apdu_front site c.requires.iec104 c.args.client.now c.args.rules.now place own c.rules_at.ensures (c.requires.rules.each place own c.rules_at.ensures) c.args.moment c.args.side c.args.bytes.now.bytes
    (apdu_value c.in-Unit.unit) c.place_for_apdu-place.ensures.place c.in-Unit.used
    (begins_same c.after.ensures.bytes c.in-Unit.ensures.true_answer) c.args.numbers.now (outlets c.args.to_client.now c.args.to_controller.now (DeskValue.lines (value c.args.desk.now)))
    c.in_ok-fate-in-Unit.fate c.take_apdu.new.numbers (outlets c.take_apdu.new.to_client c.take_apdu.new.to_controller (DeskValue.lines (value c.take_apdu.new.desk)))
    (subst (λ (a : Asset). TakesApdu a (says_by a c.args.client.now.address own c.args.moment) c.args.client.now c.args.moment c.args.side (apdu_value c.in-Unit.unit) c.in_ok-fate-in-Unit.fate
    (numbered c.args.numbers.now c.args.to_client.now c.args.to_controller.now (DeskValue.lines (value c.args.desk.now)))
    (numbered c.take_apdu.new.numbers c.take_apdu.new.to_client c.take_apdu.new.to_controller (DeskValue.lines (value c.take_apdu.new.desk)))) c.asset.ensures c.in_ok-fate-in-Unit.ensures.takes)

pub returns-in_err-fate-in-Unit-clause-misses : goal.returns-in_err-fate-in-Unit-clause-misses
returns-in_err-fate-in-Unit-clause-misses g c =
    let value = g.D.Desk.value in
    let site = c.args.site.now in
    let place = c.place_for_apdu-place.result in
    let own = c.rules_at.result.now in
    on_err _ _ (apdu_misses site c.requires.iec104 c.args.client.now c.args.rules.now place own c.rules_at.ensures (c.requires.rules.each place own c.rules_at.ensures) c.args.moment c.args.side
    c.args.bytes.now.bytes (apdu_value c.in-Unit.unit) c.place_for_apdu-place.ensures.place c.in-Unit.used
    (begins_same c.after.ensures.bytes c.in-Unit.ensures.true_answer) c.args.numbers.now (outlets c.args.to_client.now c.args.to_controller.now (DeskValue.lines (value c.args.desk.now)))
    (DeskValue.lines (value c.take_apdu.new.desk)) (DeskValue.line_part (value c.take_apdu.new.desk))
    (subst (λ (a : Asset). MissesApdu a (says_by a c.args.client.now.address own c.args.moment) c.args.client.now c.args.moment c.args.side (apdu_value c.in-Unit.unit)
    (numbered c.args.numbers.now c.args.to_client.now c.args.to_controller.now (DeskValue.lines (value c.args.desk.now)))
    (DeskValue.lines (value c.take_apdu.new.desk)) (DeskValue.line_part (value c.take_apdu.new.desk))) c.asset.ensures c.in_err-fate-in-Unit.ensures.misses))

pub returns-in_ok-fate-in-Unit-clause-few : goal.returns-in_ok-fate-in-Unit-clause-few
returns-in_ok-fate-in-Unit-clause-few g c =
    few_at c.args.site.now c.args.client.now.address c.place_for_apdu-place.result c.args.rules.now c.requires.rules (omega (arith, c.place_for_apdu-place.ensures.inside, c.requires.rules.one_each))

pub rules_at-requires : goal.rules_at-requires
rules_at-requires g c = omega (arith, c.place_for_apdu-place.ensures.inside, c.requires.rules.one_each)

pub returns-in_ok-fate-in-Unit-clause-client_grows : goal.returns-in_ok-fate-in-Unit-clause-client_grows
returns-in_ok-fate-in-Unit-clause-client_grows g c =
    let b = begins_same c.after.ensures.bytes c.in-Unit.ensures.true_answer in
    grows_apdu c.in_ok-fate-in-Unit.fate _ c.in-Unit.used (apdu_length _ _ _ b) _ _ c.in_ok-fate-in-Unit.ensures.client_grows

pub returns-in_ok-fate-in-Unit-clause-controller_grows : goal.returns-in_ok-fate-in-Unit-clause-controller_grows
returns-in_ok-fate-in-Unit-clause-controller_grows g c =
    let b = begins_same c.after.ensures.bytes c.in-Unit.ensures.true_answer in
    grows_apdu c.in_ok-fate-in-Unit.fate _ c.in-Unit.used (apdu_length _ _ _ b) _ _ c.in_ok-fate-in-Unit.ensures.controller_grows

pub take_apdu-requires-clause-fits : goal.take_apdu-requires-clause-fits
take_apdu-requires-clause-fits g c = (begins_same c.after.ensures.bytes c.in-Unit.ensures.true_answer).spells.fits

pub take_apdu-requires-clause-octets : goal.take_apdu-requires-clause-octets
take_apdu-requires-clause-octets g c =
    let all : c.in-Unit.used - 0 ≡ c.in-Unit.used = omega arith in
    c.sub.ensures.bytes ∙ ap (λ n. take n c.args.bytes.now.bytes) all ∙ (begins_same c.after.ensures.bytes c.in-Unit.ensures.true_answer).spells.spelled

pub returns-in-More-clause-client_grows : goal.returns-in-More-clause-client_grows
returns-in-More-clause-client_grows g c = grows_same _ _ _

pub returns-in-More-clause-controller_grows : goal.returns-in-More-clause-controller_grows
returns-in-More-clause-controller_grows g c = grows_same _ _ _

pub returns-in-More-clause-desk : goal.returns-in-More-clause-desk
returns-in-More-clause-desk g c = logs_none _ c.requires.whole

pub returns-in-Broken-clause-client_grows : goal.returns-in-Broken-clause-client_grows
returns-in-Broken-clause-client_grows g c = grows_same _ _ _

pub returns-in-Broken-clause-controller_grows : goal.returns-in-Broken-clause-controller_grows
returns-in-Broken-clause-controller_grows g c = grows_same _ _ _

pub returns-in-Broken-clause-desk : goal.returns-in-Broken-clause-desk
returns-in-Broken-clause-desk g c = logs_none _ c.requires.whole

pub returns-in_ok-fate-in-Unit-clause-desk : goal.returns-in_ok-fate-in-Unit-clause-desk
returns-in_ok-fate-in-Unit-clause-desk g c = c.in_ok-fate-in-Unit.ensures.desk
