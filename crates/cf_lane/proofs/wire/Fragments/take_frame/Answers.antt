use Rattle.cf_lane.specs.Rings.{says_by}
use Rattle.std.proofs.Common.{List, [], ap, arith, length, refl, subst, sym, ℕ, ◌*◌, ◌+◌, ◌∙◌}
use Rattle.std.specs.Prelude.{if◌then◌else◌}
use Rattle.cf_dnplink.specs.LinkFrame.{frame_value}
use Rattle.cf_outq.specs.SendQueue.{after_push}
use Rattle.cf_outside.specs.Desk.{DeskValue}
use Rattle.cf_lane.proofs.Dnp3Frames.{misses_data, misses_stray, none_by, takes_data, takes_stray, takes_status}
use Rattle.cf_lane.proofs.Dnp3Growth.{data_grows, data_room, still_fragments}
use Rattle.cf_lane.proofs.Failing.{on_err}
use Rattle.cf_lane.proofs.Logging.{logs_none}
use Rattle.cf_lane.proofs.Taking.{grows_passed, grows_same, room_less}
use Rattle.cf_lane.specs.Fragments.{parts}
use Rattle.cf_lane.specs.Kept.{owed_by}
use Rattle.cf_lane.specs.Handled.{Grows, HasRoom}
use Rattle.cf_lane.specs.History.{is_side}
use Rattle.cf_view.specs.declared.Side.TheVariants as side
use Rattle.cf_lane.proofs.wire.Fragments.take_frame.Goals as goal

pub returns-in-Some-clause-takes : goal.returns-in-Some-clause-takes
returns-in-Some-clause-takes g c =
    takes_stray c.args.asset.now (says_by c.args.asset.now c.args.client.now.address c.args.rules.now c.args.moment) c.args.client.now c.args.moment c.args.side (frame_value c.args.frame.now) c.in-Some.why (sym c.stray_of.ensures ∙ c.in-Some.is) _ _
    refl refl refl c.in_ok-log_stray.ensures.lines

pub returns-in_err-log_stray-clause-misses : goal.returns-in_err-log_stray-clause-misses
returns-in_err-log_stray-clause-misses g c =
    on_err _ _ (misses_stray c.args.asset.now (says_by c.args.asset.now c.args.client.now.address c.args.rules.now c.args.moment) c.args.client.now c.args.moment c.args.side (frame_value c.args.frame.now) c.in-Some.why (sym c.stray_of.ensures ∙ c.in-Some.is) _ _ _
    c.in_err-log_stray.ensures.fails)

pub returns-then-not-is_data-clause-takes : goal.returns-then-not-is_data-clause-takes
returns-then-not-is_data-clause-takes g c =
    let old = parts c.args.self.now c.args.to_client.now c.args.to_controller.now (DeskValue.lines (g.D.Desk.value c.args.desk.now)) in
    takes_status c.args.asset.now (says_by c.args.asset.now c.args.client.now.address c.args.rules.now c.args.moment) c.args.client.now c.args.moment c.args.side (frame_value c.args.frame.now) (sym c.stray_of.ensures ∙ none_by c.stray_of.result c.in_default.not-Some) (sym c.is_data.ensures ∙ c.if-not-is_data.true) old _
    c.requires.«open» refl
    (c.pass_on.ensures.client ∙ ap (λ xs. after_push c.args.to_client.now (if is_side side.Client c.args.side then [] else xs)) c.requires.octets)
    (c.pass_on.ensures.controller ∙ ap (λ xs. after_push c.args.to_controller.now (if is_side side.Controller c.args.side then [] else xs)) c.requires.octets)
    refl

pub take_answer-requires-clause-client_room : goal.take_answer-requires-clause-client_room
take_answer-requires-clause-client_room g c =
    data_room c.args.side (frame_value c.args.frame.now) c.take_segment-answer.result c.args.self.now c.take_segment-answer.new.self c.requires.are c.take_segment-answer.ensures
    c.args.to_client.now (subst (λ (xs : List ℕ). HasRoom (owed_by c.args.self.now + 2 * length xs) c.args.to_client.now) c.requires.octets c.requires.client_room)

pub take_answer-requires-clause-controller_room : goal.take_answer-requires-clause-controller_room
take_answer-requires-clause-controller_room g c =
    data_room c.args.side (frame_value c.args.frame.now) c.take_segment-answer.result c.args.self.now c.take_segment-answer.new.self c.requires.are c.take_segment-answer.ensures
    c.args.to_controller.now (subst (λ (xs : List ℕ). HasRoom (owed_by c.args.self.now + 2 * length xs) c.args.to_controller.now) c.requires.octets c.requires.controller_room)

pub returns-clause-takes : goal.returns-clause-takes
returns-clause-takes g c =
    takes_data c.args.asset.now (says_by c.args.asset.now c.args.client.now.address c.args.rules.now c.args.moment) c.args.client.now c.args.moment c.args.side (frame_value c.args.frame.now) (sym c.stray_of.ensures ∙ none_by c.stray_of.result c.in_default.not-Some) (sym c.is_data.ensures ∙ c.if-not-is_data.false)
    c.take_segment-answer.result c.in_ok-fate.fate c.args.self.now
    (parts c.take_segment-answer.new.self c.args.to_client.now c.args.to_controller.now (DeskValue.lines (g.D.Desk.value c.args.desk.now))) _
    c.take_segment-answer.ensures c.in_ok-fate.ensures.takes

pub returns-in_err-fate-clause-misses : goal.returns-in_err-fate-clause-misses
returns-in_err-fate-clause-misses g c =
    on_err _ _ (misses_data c.args.asset.now (says_by c.args.asset.now c.args.client.now.address c.args.rules.now c.args.moment) c.args.client.now c.args.moment c.args.side (frame_value c.args.frame.now) (sym c.stray_of.ensures ∙ none_by c.stray_of.result c.in_default.not-Some) (sym c.is_data.ensures ∙ c.if-not-is_data.false)
    c.take_segment-answer.result c.args.self.now
    (parts c.take_segment-answer.new.self c.args.to_client.now c.args.to_controller.now (DeskValue.lines (g.D.Desk.value c.args.desk.now))) _ _
    c.take_segment-answer.ensures c.in_err-fate.ensures.misses)

pub returns-clause-are : goal.returns-clause-are
returns-clause-are g c =
    let t = c.in_ok-fate.ensures.takes in
    still_fragments c.args.side (frame_value c.args.frame.now) c.take_segment-answer.result c.args.self.now c.take_segment-answer.new.self c.take_answer.new.self
    c.requires.are c.take_segment-answer.ensures t.client_part t.controller_part (omega (arith, t.to_client.next_is)) (omega (arith, t.to_controller.next_is))

pub returns-clause-client_grows : goal.returns-clause-client_grows
returns-clause-client_grows g c =
    let t = c.in_ok-fate.ensures.takes in
    subst (λ (xs : List ℕ). Grows (2 * length xs) (owed_by c.args.self.now) (owed_by c.take_answer.new.self) c.args.to_client.now c.take_answer.new.to_client) (sym c.requires.octets)
    (data_grows c.args.side (frame_value c.args.frame.now) c.take_segment-answer.result c.args.self.now c.take_segment-answer.new.self c.requires.are c.take_segment-answer.ensures
    c.take_answer.new.self _ _ t.client_part t.controller_part c.in_ok-fate.ensures.client_grows)

pub returns-clause-controller_grows : goal.returns-clause-controller_grows
returns-clause-controller_grows g c =
    let t = c.in_ok-fate.ensures.takes in
    subst (λ (xs : List ℕ). Grows (2 * length xs) (owed_by c.args.self.now) (owed_by c.take_answer.new.self) c.args.to_controller.now c.take_answer.new.to_controller) (sym c.requires.octets)
    (data_grows c.args.side (frame_value c.args.frame.now) c.take_segment-answer.result c.args.self.now c.take_segment-answer.new.self c.requires.are c.take_segment-answer.ensures
    c.take_answer.new.self _ _ t.client_part t.controller_part c.in_ok-fate.ensures.controller_grows)

pub returns-in-Some-clause-client_grows : goal.returns-in-Some-clause-client_grows
returns-in-Some-clause-client_grows g c = grows_same _ _ _

pub returns-in-Some-clause-controller_grows : goal.returns-in-Some-clause-controller_grows
returns-in-Some-clause-controller_grows g c = grows_same _ _ _

pub returns-in-Some-clause-desk : goal.returns-in-Some-clause-desk
returns-in-Some-clause-desk g c = c.in_ok-log_stray.ensures.desk

pub pass_on-requires-clause-client_room : goal.pass_on-requires-clause-client_room
pass_on-requires-clause-client_room g c = room_less _ _ _ (omega arith) c.requires.client_room

pub pass_on-requires-clause-controller_room : goal.pass_on-requires-clause-controller_room
pass_on-requires-clause-controller_room g c = room_less _ _ _ (omega arith) c.requires.controller_room

pub returns-then-not-is_data-clause-client_grows : goal.returns-then-not-is_data-clause-client_grows
returns-then-not-is_data-clause-client_grows g c = grows_passed (is_side side.Client c.args.side) _ _ _ _ c.pass_on.ensures.client

pub returns-then-not-is_data-clause-controller_grows : goal.returns-then-not-is_data-clause-controller_grows
returns-then-not-is_data-clause-controller_grows g c = grows_passed (is_side side.Controller c.args.side) _ _ _ _ c.pass_on.ensures.controller

pub returns-then-not-is_data-clause-desk : goal.returns-then-not-is_data-clause-desk
returns-then-not-is_data-clause-desk g c = logs_none _ c.requires.desk

pub take_answer-requires-clause-completed : goal.take_answer-requires-clause-completed
take_answer-requires-clause-completed g c = c.take_segment-answer.ensures.completes

pub take_answer-requires-clause-to_client : goal.take_answer-requires-clause-to_client
take_answer-requires-clause-to_client g c = omega (arith, c.take_segment-answer.ensures.to_client, c.requires.are.to_client)

pub take_answer-requires-clause-to_controller : goal.take_answer-requires-clause-to_controller
take_answer-requires-clause-to_controller g c = omega (arith, c.take_segment-answer.ensures.to_controller, c.requires.are.to_controller)

pub returns-clause-desk : goal.returns-clause-desk
returns-clause-desk g c = c.in_ok-fate.ensures.desk
