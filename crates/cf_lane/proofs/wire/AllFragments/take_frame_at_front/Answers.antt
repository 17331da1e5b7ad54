use Rattle.std.proofs.Common.{ap, arith, length, refl, rules, subst, sym, take, ◌-◌, ◌∙◌, ◌≡◌}
use Rattle.cf_dnplink.specs.LinkFrame.{frame_value}
use Rattle.cf_outside.specs.Desk.{DeskValue}
use Rattle.cf_lane.proofs.Dnp3Steps.{are_back, are_lent, frame_front, frame_misses, front_octets, grows_back, missed_back, taken_back}
use Rattle.cf_lane.proofs.Failing.{on_err}
use Rattle.cf_lane.proofs.Fronts.{few_at}
use Rattle.cf_lane.proofs.Logging.{logs_none}
use Rattle.cf_lane.proofs.Parting.{within_at}
use Rattle.cf_lane.proofs.Taking.{grows_same, room_less}
use Rattle.cf_lane.specs.Kept.{owed_by}
use Rattle.cf_policy.specs.Within.{IsAssetWithin}
use Rattle.std.proofs.lemmas.List.{length-take}
use Rattle.std.specs.List.{sum_by}
use Rattle.cf_lane.specs.Rings.{IsRulesOf}
use Rattle.cf_policy.specs.declared.Asset.{Asset}
use Rattle.cf_lane.proofs.Units.{begins_same, frames, step_breaks, step_waits}
use Rattle.cf_lane.specs.Handled.{outlets}
use Rattle.cf_lane.proofs.wire.AllFragments.take_frame_at_front.Goals as goal

pub returns-in-More-clause-fronts : goal.returns-in-More-clause-fronts
returns-in-More-clause-fronts g c = λ admitted refused.
    (step_waits c.args.site.now (frames c.args.site.now.first.protocol c.requires.dnp3) _ _ c.after.ensures.bytes c.in-More.ensures.true_answer, refl)

pub returns-in-Broken-clause-fronts : goal.returns-in-Broken-clause-fronts
returns-in-Broken-clause-fronts g c = λ admitted refused. (
  step_breaks c.args.site.now (frames c.args.site.now.first.protocol c.requires.dnp3) _ _ c.after.ensures.bytes c.args.side c.in-Broken.reason c.in-Broken.ensures.true_answer,
  refl,
)

pub take_frame_at-requires-clause-octets : goal.take_frame_at-requires-clause-octets
take_frame_at-requires-clause-octets g c =
    let b = begins_same c.after.ensures.bytes c.in-Unit.ensures.true_answer in
    let all : c.in-Unit.used - 0 ≡ c.in-Unit.used = omega arith in
    c.sub-octets.ensures.bytes ∙ ap (λ m. take m c.args.bytes.now.bytes) all ∙ front_octets c.args.bytes.now.bytes (frame_value c.in-Unit.unit) c.in-Unit.used b

pub take_frame_at-requires-clause-rules : goal.take_frame_at-requires-clause-rules
take_frame_at-requires-clause-rules g c =
    subst (λ (a : Asset). IsRulesOf a c.args.client.now.address c.rules_at.result.now) (sym c.asset.ensures) (c.requires.rules.each c.place_for_frame-place.result c.rules_at.result.now c.rules_at.ensures)

pub returns-in_ok-fate-in-Unit-clause-few : goal.returns-in_ok-fate-in-Unit-clause-few
returns-in_ok-fate-in-Unit-clause-few g c =
    few_at c.args.site.now c.args.client.now.address c.place_for_frame-place.result c.args.rules.now c.requires.rules (omega (arith, c.place_for_frame-place.ensures.inside, c.requires.rules.one_each))

pub returns-in_ok-fate-in-Unit-clause-fronts : goal.returns-in_ok-fate-in-Unit-clause-fronts
returns-in_ok-fate-in-Unit-clause-fronts g c =
    let value = g.D.Desk.value in
    let place = c.place_for_frame-place.result in
    let own = c.rules_at.result.now in
    let x = frame_value c.in-Unit.unit in
    let old = outlets c.args.to_client.now c.args.to_controller.now (DeskValue.lines (value c.args.desk.now)) in
    let new = outlets c.take_frame_at.new.to_client c.take_frame_at.new.to_controller (DeskValue.lines (value c.take_frame_at.new.desk)) in
    let size : c.self.inside.all.len ≡ length c.self.inside.all.items = search rules in
    frame_front c.args.site.now c.requires.dnp3 c.args.client.now c.args.rules.now place own c.rules_at.ensures (c.requires.rules.each place own c.rules_at.ensures) c.args.moment c.args.side
    c.args.bytes.now.bytes x c.place_for_frame-place.ensures.place c.in-Unit.used (begins_same c.after.ensures.bytes c.in-Unit.ensures.true_answer) c.args.self.now old
    c.in_ok-fate-in-Unit.fate _ new
    (taken_back _ _ c.asset.ensures c.args.client.now.address own c.args.client.now c.args.moment c.args.side x place c.as_mut_slice.result.now c.self.inside.all.items c.args.self.now
    c.as_mut_slice.ensures.value c.self.view_is old c.in_ok-fate-in-Unit.fate c.take_frame_at.new.all c.self.inside.all.len new size c.in_ok-fate-in-Unit.ensures.takes)

pub returns-in_err-fate-in-Unit-clause-misses : goal.returns-in_err-fate-in-Unit-clause-misses
returns-in_err-fate-in-Unit-clause-misses g c =
    let value = g.D.Desk.value in
    let place = c.place_for_frame-place.result in
    let own = c.rules_at.result.now in
    let x = frame_value c.in-Unit.unit in
    let old = outlets c.args.to_client.now c.args.to_controller.now (DeskValue.lines (value c.args.desk.now)) in
    on_err _ _ (frame_misses c.args.site.now c.requires.dnp3 c.args.client.now c.args.rules.now place own c.rules_at.ensures (c.requires.rules.each place own c.rules_at.ensures) c.args.moment
    c.args.side c.args.bytes.now.bytes x c.place_for_frame-place.ensures.place c.in-Unit.used (begins_same c.after.ensures.bytes c.in-Unit.ensures.true_answer) c.args.self.now old
    (DeskValue.lines (value c.take_frame_at.new.desk)) (DeskValue.line_part (value c.take_frame_at.new.desk))
    (missed_back _ _ c.asset.ensures c.args.client.now.address own c.args.client.now c.args.moment c.args.side x place c.as_mut_slice.result.now c.self.inside.all.items c.args.self.now
    c.as_mut_slice.ensures.value c.self.view_is old _ _ c.in_err-fate-in-Unit.ensures.misses))

pub take_frame_at-requires-clause-inside : goal.take_frame_at-requires-clause-inside
take_frame_at-requires-clause-inside g c = omega (arith, c.place_for_frame-place.ensures.inside, c.requires.are.one_each, ap length (c.as_mut_slice.ensures.value ∙ c.self.view_is))

pub take_frame_at-requires-clause-within : goal.take_frame_at-requires-clause-within
take_frame_at-requires-clause-within g c = subst IsAssetWithin (sym c.asset.ensures) (within_at c.args.site.now c.requires.within c.place_for_frame-place.result)

pub take_frame_at-requires-clause-are : goal.take_frame_at-requires-clause-are
take_frame_at-requires-clause-are g c = are_lent _ _ _ (c.as_mut_slice.ensures.value ∙ c.self.view_is) c.requires.are

pub take_frame_at-requires-clause-frame : goal.take_frame_at-requires-clause-frame
take_frame_at-requires-clause-frame g c =
    let b = begins_same c.after.ensures.bytes c.in-Unit.ensures.true_answer in
    (take c.in-Unit.used c.args.bytes.now.bytes, b.spells)

pub take_frame_at-requires-clause-client_room : goal.take_frame_at-requires-clause-client_room
take_frame_at-requires-clause-client_room g c =
    room_less _ _ _ (omega (arith, ap (sum_by owed_by) (c.as_mut_slice.ensures.value ∙ c.self.view_is), ap length c.sub-octets.ensures.bytes, length-take (c.in-Unit.used - 0) c.args.bytes.now.bytes)) c.requires.client_room

pub take_frame_at-requires-clause-controller_room : goal.take_frame_at-requires-clause-controller_room
take_frame_at-requires-clause-controller_room g c =
    room_less _ _ _ (omega (arith, ap (sum_by owed_by) (c.as_mut_slice.ensures.value ∙ c.self.view_is), ap length c.sub-octets.ensures.bytes, length-take (c.in-Unit.used - 0) c.args.bytes.now.bytes)) c.requires.controller_room

pub returns-in-More-clause-client_grows : goal.returns-in-More-clause-client_grows
returns-in-More-clause-client_grows g c = grows_same _ _ _

pub returns-in-More-clause-controller_grows : goal.returns-in-More-clause-controller_grows
returns-in-More-clause-controller_grows g c = grows_same _ _ _

pub returns-in-More-clause-desk : goal.returns-in-More-clause-desk
returns-in-More-clause-desk g c = logs_none _ c.requires.desk

pub returns-in-Broken-clause-client_grows : goal.returns-in-Broken-clause-client_grows
returns-in-Broken-clause-client_grows g c = grows_same _ _ _

pub returns-in-Broken-clause-controller_grows : goal.returns-in-Broken-clause-controller_grows
returns-in-Broken-clause-controller_grows g c = grows_same _ _ _

pub returns-in-Broken-clause-desk : goal.returns-in-Broken-clause-desk
returns-in-Broken-clause-desk g c = logs_none _ c.requires.desk

pub returns-in_ok-fate-in-Unit-clause-are : goal.returns-in_ok-fate-in-Unit-clause-are
returns-in_ok-fate-in-Unit-clause-are g c =
    let size : c.self.inside.all.len ≡ length c.self.inside.all.items = search rules in
    are_back _ _ _ _ c.as_mut_slice.ensures.value c.self.view_is _ size c.in_ok-fate-in-Unit.ensures.are.one_each _ c.requires.are c.in_ok-fate-in-Unit.ensures.are

pub returns-in_ok-fate-in-Unit-clause-client_grows : goal.returns-in_ok-fate-in-Unit-clause-client_grows
returns-in_ok-fate-in-Unit-clause-client_grows g c =
    let size : c.self.inside.all.len ≡ length c.self.inside.all.items = search rules in
    grows_back _ _ _ _ c.as_mut_slice.ensures.value c.self.view_is _ size c.in_ok-fate-in-Unit.ensures.are.one_each _ c.in_ok-fate-in-Unit.ensures.takes.takes.uncut (length c.sub-octets.result.bytes) c.in-Unit.used
    (omega (arith, ap length c.sub-octets.ensures.bytes, length-take (c.in-Unit.used - 0) c.args.bytes.now.bytes)) _ _ c.in_ok-fate-in-Unit.ensures.client_grows

pub returns-in_ok-fate-in-Unit-clause-controller_grows : goal.returns-in_ok-fate-in-Unit-clause-controller_grows
returns-in_ok-fate-in-Unit-clause-controller_grows g c =
    let size : c.self.inside.all.len ≡ length c.self.inside.all.items = search rules in
    grows_back _ _ _ _ c.as_mut_slice.ensures.value c.self.view_is _ size c.in_ok-fate-in-Unit.ensures.are.one_each _ c.in_ok-fate-in-Unit.ensures.takes.takes.uncut (length c.sub-octets.result.bytes) c.in-Unit.used
    (omega (arith, ap length c.sub-octets.ensures.bytes, length-take (c.in-Unit.used - 0) c.args.bytes.now.bytes)) _ _ c.in_ok-fate-in-Unit.ensures.controller_grows

pub returns-in_ok-fate-in-Unit-clause-desk : goal.returns-in_ok-fate-in-Unit-clause-desk
returns-in_ok-fate-in-Unit-clause-desk g c = c.in_ok-fate-in-Unit.ensures.desk
