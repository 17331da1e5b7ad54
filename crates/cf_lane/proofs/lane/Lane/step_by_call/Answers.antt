use Rattle.std.proofs.Common.{ap, arith, subst}
use Rattle.cf_outside.specs.Desk.{DeskValue}
use Rattle.cf_lane.proofs.Failing.{on_err}
use Rattle.cf_lane.proofs.Fronts.{are_all, counted_most, counts_counted, dnp3_wire, fronts_in, grows_counted, grows_in, iec104_wire, inside_counted, is_dnp3, is_idle, is_iec104, lane_counted, lane_in, lane_of, misses_in, room_in, rules_in, steps_counted, wire_in}
use Rattle.cf_lane.proofs.Taking.{room_less}
use Rattle.cf_lane.specs.Handled.{FewAtFront, LaneValue, outlets}
use Rattle.cf_lane.specs.declared.wire.Wire.TheVariants as wire
use Rattle.cf_lane.proofs.lane.Lane.step_by_call.Goals as goal

pub count_front-requires-clause-counts : goal.count_front-requires-clause-counts
count_front-requires-clause-counts g c =
    let value = g.D.Desk.value in
    let old = outlets c.args.to_client.now c.args.to_controller.now (DeskValue.lines (value c.args.desk.now)) in
    let new = outlets c.take_frame_at_front.new.to_client c.take_frame_at_front.new.to_controller (DeskValue.lines (value c.take_frame_at_front.new.desk)) in
    let front = fronts_in c.args.site.now _ _ _ _ _ _ _ c.self.view_is c.in-Dnp3.is c.args.moment c.args.side c.args.bytes.now.bytes old (wire.Dnp3 c.take_frame_at_front.new.self) new c.in_ok-front-in-Dnp3.front c.as_slice.result.now c.as_slice.ensures.value c.in_ok-front-in-Dnp3.ensures.fronts in
    omega (arith, c.requires.counts, counted_most c.args.site.now c.args.moment c.args.side c.args.bytes.now.bytes _ _ c.in_ok-front-in-Dnp3.front front, ap (λ (l : LaneValue). l.admitted) c.self.view_is, ap (λ (l : LaneValue). l.refused) c.self.view_is)

pub returns-in_ok-front-in-Dnp3-clause-steps : goal.returns-in_ok-front-in-Dnp3-clause-steps
returns-in_ok-front-in-Dnp3-clause-steps g c =
    let value = g.D.Desk.value in
    let old = outlets c.args.to_client.now c.args.to_controller.now (DeskValue.lines (value c.args.desk.now)) in
    let new = outlets c.take_frame_at_front.new.to_client c.take_frame_at_front.new.to_controller (DeskValue.lines (value c.take_frame_at_front.new.desk)) in
    let mid = lane_of c.self.inside.client c.self.inside.admitted c.self.inside.refused c.self.inside.rules.items (wire.Dnp3 c.take_frame_at_front.new.self) in
    let front = fronts_in c.args.site.now _ _ _ _ _ _ _ c.self.view_is c.in-Dnp3.is c.args.moment c.args.side c.args.bytes.now.bytes old (wire.Dnp3 c.take_frame_at_front.new.self) new c.in_ok-front-in-Dnp3.front c.as_slice.result.now c.as_slice.ensures.value c.in_ok-front-in-Dnp3.ensures.fronts in
    steps_counted c.args.site.now c.args.moment c.args.side c.args.bytes.now.bytes _ mid _ _ _ c.in_ok-front-in-Dnp3.front front c.count_front.new.self c.count_front.ensures.counts c.count_front.result c.count_front.ensures.step

pub returns-in_ok-front-in-Dnp3-clause-of_site : goal.returns-in_ok-front-in-Dnp3-clause-of_site
returns-in_ok-front-in-Dnp3-clause-of_site g c =
    lane_counted c.args.site.now c.args.moment c.in_ok-front-in-Dnp3.front _ c.count_front.new.self
    (lane_in c.args.site.now _ _ _ _ _ _ _ c.self.view_is c.in-Dnp3.is (wire.Dnp3 c.take_frame_at_front.new.self) (dnp3_wire c.args.site.now.first.protocol _ c.take_frame_at_front.new.self (is_dnp3 c.args.site.now.first.protocol _ _ (wire_in c.args.site.now _ _ _ _ _ _ _ c.self.view_is c.in-Dnp3.is c.requires.of_site)) c.in_ok-front-in-Dnp3.ensures.are) c.requires.of_site) c.count_front.ensures.counts

pub returns-in_ok-front-in-Dnp3-clause-counts : goal.returns-in_ok-front-in-Dnp3-clause-counts
returns-in_ok-front-in-Dnp3-clause-counts g c =
    let value = g.D.Desk.value in
    let old = outlets c.args.to_client.now c.args.to_controller.now (DeskValue.lines (value c.args.desk.now)) in
    let new = outlets c.take_frame_at_front.new.to_client c.take_frame_at_front.new.to_controller (DeskValue.lines (value c.take_frame_at_front.new.desk)) in
    let front = fronts_in c.args.site.now _ _ _ _ _ _ _ c.self.view_is c.in-Dnp3.is c.args.moment c.args.side c.args.bytes.now.bytes old (wire.Dnp3 c.take_frame_at_front.new.self) new c.in_ok-front-in-Dnp3.front c.as_slice.result.now c.as_slice.ensures.value c.in_ok-front-in-Dnp3.ensures.fronts in
    omega (
      arith,
      counts_counted c.args.site.now c.args.moment c.args.side c.args.bytes.now.bytes _ _ c.in_ok-front-in-Dnp3.front front c.count_front.new.self c.count_front.ensures.counts c.count_front.result c.count_front.ensures.step,
      ap (λ (l : LaneValue). l.admitted) c.self.view_is,
      ap (λ (l : LaneValue). l.refused) c.self.view_is,
    )

pub returns-in_ok-front-in-Dnp3-clause-inside : goal.returns-in_ok-front-in-Dnp3-clause-inside
returns-in_ok-front-in-Dnp3-clause-inside g c =
    let value = g.D.Desk.value in
    let old = outlets c.args.to_client.now c.args.to_controller.now (DeskValue.lines (value c.args.desk.now)) in
    let new = outlets c.take_frame_at_front.new.to_client c.take_frame_at_front.new.to_controller (DeskValue.lines (value c.take_frame_at_front.new.desk)) in
    let front = fronts_in c.args.site.now _ _ _ _ _ _ _ c.self.view_is c.in-Dnp3.is c.args.moment c.args.side c.args.bytes.now.bytes old (wire.Dnp3 c.take_frame_at_front.new.self) new c.in_ok-front-in-Dnp3.front c.as_slice.result.now c.as_slice.ensures.value c.in_ok-front-in-Dnp3.ensures.fronts in
    inside_counted c.args.site.now c.args.moment c.args.side c.args.bytes.now.bytes _ _ c.in_ok-front-in-Dnp3.front front c.count_front.result c.count_front.ensures.step

pub returns-in_ok-front-in-Dnp3-clause-client_grows : goal.returns-in_ok-front-in-Dnp3-clause-client_grows
returns-in_ok-front-in-Dnp3-clause-client_grows g c =
    grows_in c.args.site.now _ _ _ _ _ _ _ c.self.view_is c.in-Dnp3.is _ _ _ _
    (grows_counted c.args.side c.args.moment c.in_ok-front-in-Dnp3.front (lane_of c.self.inside.client c.self.inside.admitted c.self.inside.refused c.self.inside.rules.items (wire.Dnp3 c.take_frame_at_front.new.self))
    c.count_front.new.self c.count_front.ensures.counts c.count_front.result c.count_front.ensures.step _ _ _ c.in_ok-front-in-Dnp3.ensures.client_grows)

pub returns-in_ok-front-in-Dnp3-clause-controller_grows : goal.returns-in_ok-front-in-Dnp3-clause-controller_grows
returns-in_ok-front-in-Dnp3-clause-controller_grows g c =
    grows_in c.args.site.now _ _ _ _ _ _ _ c.self.view_is c.in-Dnp3.is _ _ _ _
    (grows_counted c.args.side c.args.moment c.in_ok-front-in-Dnp3.front (lane_of c.self.inside.client c.self.inside.admitted c.self.inside.refused c.self.inside.rules.items (wire.Dnp3 c.take_frame_at_front.new.self))
    c.count_front.new.self c.count_front.ensures.counts c.count_front.result c.count_front.ensures.step _ _ _ c.in_ok-front-in-Dnp3.ensures.controller_grows)

pub count_front-requires-in-Iec104-clause-counts : goal.count_front-requires-in-Iec104-clause-counts
count_front-requires-in-Iec104-clause-counts g c =
    let value = g.D.Desk.value in
    let old = outlets c.args.to_client.now c.args.to_controller.now (DeskValue.lines (value c.args.desk.now)) in
    let new = outlets c.take_apdu_at_front.new.to_client c.take_apdu_at_front.new.to_controller (DeskValue.lines (value c.take_apdu_at_front.new.desk)) in
    let front = fronts_in c.args.site.now _ _ _ _ _ _ _ c.self.view_is c.in-Iec104.is c.args.moment c.args.side c.args.bytes.now.bytes old (wire.Iec104 c.take_apdu_at_front.new.numbers) new c.in_ok-front-in-Iec104.front c.as_slice-in-Iec104.result.now c.as_slice-in-Iec104.ensures.value c.in_ok-front-in-Iec104.ensures.fronts in
    omega (arith, c.requires.counts, counted_most c.args.site.now c.args.moment c.args.side c.args.bytes.now.bytes _ _ c.in_ok-front-in-Iec104.front front, ap (λ (l : LaneValue). l.admitted) c.self.view_is, ap (λ (l : LaneValue). l.refused) c.self.view_is)

pub returns-in_ok-front-in-Iec104-clause-steps : goal.returns-in_ok-front-in-Iec104-clause-steps
returns-in_ok-front-in-Iec104-clause-steps g c =
    let value = g.D.Desk.value in
    let old = outlets c.args.to_client.now c.args.to_controller.now (DeskValue.lines (value c.args.desk.now)) in
    let new = outlets c.take_apdu_at_front.new.to_client c.take_apdu_at_front.new.to_controller (DeskValue.lines (value c.take_apdu_at_front.new.desk)) in
    let mid = lane_of c.self.inside.client c.self.inside.admitted c.self.inside.refused c.self.inside.rules.items (wire.Iec104 c.take_apdu_at_front.new.numbers) in
    let front = fronts_in c.args.site.now _ _ _ _ _ _ _ c.self.view_is c.in-Iec104.is c.args.moment c.args.side c.args.bytes.now.bytes old (wire.Iec104 c.take_apdu_at_front.new.numbers) new c.in_ok-front-in-Iec104.front c.as_slice-in-Iec104.result.now c.as_slice-in-Iec104.ensures.value c.in_ok-front-in-Iec104.ensures.fronts in
    steps_counted c.args.site.now c.args.moment c.args.side c.args.bytes.now.bytes _ mid _ _ _ c.in_ok-front-in-Iec104.front front c.count_front-in-Iec104.new.self c.count_front-in-Iec104.ensures.counts c.count_front-in-Iec104.result c.count_front-in-Iec104.ensures.step

pub returns-in_ok-front-in-Iec104-clause-of_site : goal.returns-in_ok-front-in-Iec104-clause-of_site
returns-in_ok-front-in-Iec104-clause-of_site g c =
    lane_counted c.args.site.now c.args.moment c.in_ok-front-in-Iec104.front _ c.count_front-in-Iec104.new.self
    (lane_in c.args.site.now _ _ _ _ _ _ _ c.self.view_is c.in-Iec104.is (wire.Iec104 c.take_apdu_at_front.new.numbers) (iec104_wire c.args.site.now.first.protocol _ c.take_apdu_at_front.new.numbers (is_iec104 c.args.site.now.first.protocol _ _ (wire_in c.args.site.now _ _ _ _ _ _ _ c.self.view_is c.in-Iec104.is c.requires.of_site)) c.in_ok-front-in-Iec104.ensures.idle) c.requires.of_site) c.count_front-in-Iec104.ensures.counts

pub returns-in_ok-front-in-Iec104-clause-counts : goal.returns-in_ok-front-in-Iec104-clause-counts
returns-in_ok-front-in-Iec104-clause-counts g c =
    let value = g.D.Desk.value in
    let old = outlets c.args.to_client.now c.args.to_controller.now (DeskValue.lines (value c.args.desk.now)) in
    let new = outlets c.take_apdu_at_front.new.to_client c.take_apdu_at_front.new.to_controller (DeskValue.lines (value c.take_apdu_at_front.new.desk)) in
    let front = fronts_in c.args.site.now _ _ _ _ _ _ _ c.self.view_is c.in-Iec104.is c.args.moment c.args.side c.args.bytes.now.bytes old (wire.Iec104 c.take_apdu_at_front.new.numbers) new c.in_ok-front-in-Iec104.front c.as_slice-in-Iec104.result.now c.as_slice-in-Iec104.ensures.value c.in_ok-front-in-Iec104.ensures.fronts in
    omega (
      arith,
      counts_counted c.args.site.now c.args.moment c.args.side c.args.bytes.now.bytes _ _ c.in_ok-front-in-Iec104.front front c.count_front-in-Iec104.new.self c.count_front-in-Iec104.ensures.counts c.count_front-in-Iec104.result c.count_front-in-Iec104.ensures.step,
      ap (λ (l : LaneValue). l.admitted) c.self.view_is,
      ap (λ (l : LaneValue). l.refused) c.self.view_is,
    )

pub returns-in_ok-front-in-Iec104-clause-inside : goal.returns-in_ok-front-in-Iec104-clause-inside
returns-in_ok-front-in-Iec104-clause-inside g c =
    let value = g.D.Desk.value in
    let old = outlets c.args.to_client.now c.args.to_controller.now (DeskValue.lines (value c.args.desk.now)) in
    let new = outlets c.take_apdu_at_front.new.to_client c.take_apdu_at_front.new.to_controller (DeskValue.lines (value c.take_apdu_at_front.new.desk)) in
    let front = fronts_in c.args.site.now _ _ _ _ _ _ _ c.self.view_is c.in-Iec104.is c.args.moment c.args.side c.args.bytes.now.bytes old (wire.Iec104 c.take_apdu_at_front.new.numbers) new c.in_ok-front-in-Iec104.front c.as_slice-in-Iec104.result.now c.as_slice-in-Iec104.ensures.value c.in_ok-front-in-Iec104.ensures.fronts in
    inside_counted c.args.site.now c.args.moment c.args.side c.args.bytes.now.bytes _ _ c.in_ok-front-in-Iec104.front front c.count_front-in-Iec104.result c.count_front-in-Iec104.ensures.step

pub returns-in_ok-front-in-Iec104-clause-client_grows : goal.returns-in_ok-front-in-Iec104-clause-client_grows
returns-in_ok-front-in-Iec104-clause-client_grows g c =
    grows_in c.args.site.now _ _ _ _ _ _ _ c.self.view_is c.in-Iec104.is _ _ _ _
    (grows_counted c.args.side c.args.moment c.in_ok-front-in-Iec104.front (lane_of c.self.inside.client c.self.inside.admitted c.self.inside.refused c.self.inside.rules.items (wire.Iec104 c.take_apdu_at_front.new.numbers))
    c.count_front-in-Iec104.new.self c.count_front-in-Iec104.ensures.counts c.count_front-in-Iec104.result c.count_front-in-Iec104.ensures.step _ _ _ c.in_ok-front-in-Iec104.ensures.client_grows)

pub returns-in_ok-front-in-Iec104-clause-controller_grows : goal.returns-in_ok-front-in-Iec104-clause-controller_grows
returns-in_ok-front-in-Iec104-clause-controller_grows g c =
    grows_in c.args.site.now _ _ _ _ _ _ _ c.self.view_is c.in-Iec104.is _ _ _ _
    (grows_counted c.args.side c.args.moment c.in_ok-front-in-Iec104.front (lane_of c.self.inside.client c.self.inside.admitted c.self.inside.refused c.self.inside.rules.items (wire.Iec104 c.take_apdu_at_front.new.numbers))
    c.count_front-in-Iec104.new.self c.count_front-in-Iec104.ensures.counts c.count_front-in-Iec104.result c.count_front-in-Iec104.ensures.step _ _ _ c.in_ok-front-in-Iec104.ensures.controller_grows)

pub take_frame_at_front-requires-clause-dnp3 : goal.take_frame_at_front-requires-clause-dnp3
take_frame_at_front-requires-clause-dnp3 g c = is_dnp3 c.args.site.now.first.protocol _ _ (wire_in c.args.site.now _ _ _ _ _ _ _ c.self.view_is c.in-Dnp3.is c.requires.of_site)

pub take_frame_at_front-requires-clause-are : goal.take_frame_at_front-requires-clause-are
take_frame_at_front-requires-clause-are g c = are_all c.args.site.now.first.protocol _ _ (wire_in c.args.site.now _ _ _ _ _ _ _ c.self.view_is c.in-Dnp3.is c.requires.of_site)

pub take_frame_at_front-requires-clause-rules : goal.take_frame_at_front-requires-clause-rules
take_frame_at_front-requires-clause-rules g c = rules_in c.args.site.now _ _ _ _ _ _ _ c.self.view_is c.in-Dnp3.is c.as_slice.result.now c.as_slice.ensures.value c.requires.of_site

pub take_frame_at_front-requires-clause-client_room : goal.take_frame_at_front-requires-clause-client_room
take_frame_at_front-requires-clause-client_room g c = room_in c.args.site.now _ _ _ _ _ _ _ c.self.view_is c.in-Dnp3.is _ _ c.requires.client_room

pub take_frame_at_front-requires-clause-controller_room : goal.take_frame_at_front-requires-clause-controller_room
take_frame_at_front-requires-clause-controller_room g c = room_in c.args.site.now _ _ _ _ _ _ _ c.self.view_is c.in-Dnp3.is _ _ c.requires.controller_room

pub count_front-requires-clause-few : goal.count_front-requires-clause-few
count_front-requires-clause-few g c = subst (FewAtFront c.in_ok-front-in-Dnp3.front) c.as_slice.ensures.value c.in_ok-front-in-Dnp3.ensures.few

pub returns-in_err-front-in-Dnp3-clause-misses : goal.returns-in_err-front-in-Dnp3-clause-misses
returns-in_err-front-in-Dnp3-clause-misses g c =
    on_err _ _ (misses_in c.args.site.now _ _ _ _ _ _ _ c.self.view_is c.in-Dnp3.is c.args.moment c.args.side c.args.bytes.now.bytes (outlets c.args.to_client.now c.args.to_controller.now (DeskValue.lines (g.D.Desk.value c.args.desk.now)))
    _ _ c.as_slice.result.now c.as_slice.ensures.value c.in_err-front-in-Dnp3.ensures.misses)

pub returns-in_ok-front-in-Dnp3-clause-desk : goal.returns-in_ok-front-in-Dnp3-clause-desk
returns-in_ok-front-in-Dnp3-clause-desk g c = c.in_ok-front-in-Dnp3.ensures.desk

pub take_apdu_at_front-requires-clause-iec104 : goal.take_apdu_at_front-requires-clause-iec104
take_apdu_at_front-requires-clause-iec104 g c = is_iec104 c.args.site.now.first.protocol _ _ (wire_in c.args.site.now _ _ _ _ _ _ _ c.self.view_is c.in-Iec104.is c.requires.of_site)

pub take_apdu_at_front-requires-clause-idle : goal.take_apdu_at_front-requires-clause-idle
take_apdu_at_front-requires-clause-idle g c = is_idle c.args.site.now.first.protocol _ _ (wire_in c.args.site.now _ _ _ _ _ _ _ c.self.view_is c.in-Iec104.is c.requires.of_site)

pub take_apdu_at_front-requires-clause-rules : goal.take_apdu_at_front-requires-clause-rules
take_apdu_at_front-requires-clause-rules g c = rules_in c.args.site.now _ _ _ _ _ _ _ c.self.view_is c.in-Iec104.is c.as_slice-in-Iec104.result.now c.as_slice-in-Iec104.ensures.value c.requires.of_site

pub take_apdu_at_front-requires-clause-client_room : goal.take_apdu_at_front-requires-clause-client_room
take_apdu_at_front-requires-clause-client_room g c = room_less _ _ _ (omega arith) (room_in c.args.site.now _ _ _ _ _ _ _ c.self.view_is c.in-Iec104.is _ _ c.requires.client_room)

pub take_apdu_at_front-requires-clause-controller_room : goal.take_apdu_at_front-requires-clause-controller_room
take_apdu_at_front-requires-clause-controller_room g c = room_less _ _ _ (omega arith) (room_in c.args.site.now _ _ _ _ _ _ _ c.self.view_is c.in-Iec104.is _ _ c.requires.controller_room)

pub count_front-requires-in-Iec104-clause-few : goal.count_front-requires-in-Iec104-clause-few
count_front-requires-in-Iec104-clause-few g c = subst (FewAtFront c.in_ok-front-in-Iec104.front) c.as_slice-in-Iec104.ensures.value c.in_ok-front-in-Iec104.ensures.few

pub returns-in_err-front-in-Iec104-clause-misses : goal.returns-in_err-front-in-Iec104-clause-misses
returns-in_err-front-in-Iec104-clause-misses g c =
    on_err _ _ (misses_in c.args.site.now _ _ _ _ _ _ _ c.self.view_is c.in-Iec104.is c.args.moment c.args.side c.args.bytes.now.bytes (outlets c.args.to_client.now c.args.to_controller.now (DeskValue.lines (g.D.Desk.value c.args.desk.now)))
    _ _ c.as_slice-in-Iec104.result.now c.as_slice-in-Iec104.ensures.value c.in_err-front-in-Iec104.ensures.misses)

pub returns-in_ok-front-in-Iec104-clause-desk : goal.returns-in_ok-front-in-Iec104-clause-desk
returns-in_ok-front-in-Iec104-clause-desk g c = c.in_ok-front-in-Iec104.ensures.desk
