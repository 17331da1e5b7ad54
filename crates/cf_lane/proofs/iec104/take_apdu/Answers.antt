use Rattle.cf_lane.specs.Rings.{says_by}
use Rattle.std.proofs.Common.{ap, arith, length, refl, subst, sym, ◌∙◌}
use Rattle.std.specs.Prelude.{IfOk, OnErr}
use Rattle.cf_apci.specs.Apdu.{ApduValue, Fits, apdu_value, spelling}
use Rattle.cf_lane.proofs.Logging.{logs_none}
use Rattle.cf_lane.proofs.Taking.{grows_same, room_less}
use Rattle.cf_lane.specs.Handled.{Grows, HasRoom, IsOpen}
use Rattle.cf_lane.specs.Renumbered.{MissesApdu, TakesApdu, numbered, unless_cut}
use Rattle.cf_lane.specs.declared.fate.Fate.{Fate}
use Rattle.cf_view.specs.declared.Side.{Side}
use Rattle.cf_lane.proofs.Apdus.{of_both, takes_same}
use Rattle.cf_outside.specs.Desk.{DeskValue}
use Rattle.cf_lane.proofs.iec104.take_apdu.Goals as goal

pub returns-in-Control-clause-takes : goal.returns-in-Control-clause-takes
returns-in-Control-clause-takes g c =
    takes_same c.args.asset.now (says_by c.args.asset.now c.args.client.now.address c.args.rules.now c.args.moment) c.args.client.now c.args.moment c.args.side c.args.side _ _ _ _ _ refl (ap apdu_value c.in-Control.is)
    (c.carry_control-fate.ensures.takes c.args.asset.now (says_by c.args.asset.now c.args.client.now.address c.args.rules.now c.args.moment) c.args.client.now c.args.moment (DeskValue.lines (g.D.Desk.value c.args.desk.now)))

pub returns-in-Ack-clause-takes : goal.returns-in-Ack-clause-takes
returns-in-Ack-clause-takes g c =
    takes_same c.args.asset.now (says_by c.args.asset.now c.args.client.now.address c.args.rules.now c.args.moment) c.args.client.now c.args.moment c.args.side c.args.side _ _ _ _ _ refl (ap apdu_value c.in-Ack.is)
    (c.carry_ack-fate.ensures.takes c.args.asset.now (says_by c.args.asset.now c.args.client.now.address c.args.rules.now c.args.moment) c.args.client.now c.args.moment (DeskValue.lines (g.D.Desk.value c.args.desk.now)))

pub returns-in-Controller-clause-takes : goal.returns-in-Controller-clause-takes
returns-in-Controller-clause-takes g c =
    takes_same c.args.asset.now (says_by c.args.asset.now c.args.client.now.address c.args.rules.now c.args.moment) c.args.client.now c.args.moment _ c.args.side _ _ _ _ _ c.in-Controller.is (ap apdu_value c.in-Info.is)
    (c.carry_info-fate.ensures.takes c.args.asset.now (says_by c.args.asset.now c.args.client.now.address c.args.rules.now c.args.moment) c.args.client.now c.args.moment c.args.to_controller.now (DeskValue.lines (g.D.Desk.value c.args.desk.now)))

pub carry_control-fate-requires-clause-client_room : goal.carry_control-fate-requires-clause-client_room
carry_control-fate-requires-clause-client_room g c = room_less _ _ _ (omega arith) (subst (λ (a : ApduValue). HasRoom (length (spelling a)) c.args.to_client.now) (ap apdu_value c.in-Control.is) c.requires.client_room)

pub carry_control-fate-requires-clause-controller_room : goal.carry_control-fate-requires-clause-controller_room
carry_control-fate-requires-clause-controller_room g c = room_less _ _ _ (omega arith) (subst (λ (a : ApduValue). HasRoom (length (spelling a)) c.args.to_controller.now) (ap apdu_value c.in-Control.is) c.requires.controller_room)

pub returns-in-Control-clause-client_grows : goal.returns-in-Control-clause-client_grows
returns-in-Control-clause-client_grows g c = subst (λ (a : ApduValue). Grows (unless_cut c.carry_control-fate.result (length (spelling a))) 0 0 c.args.to_client.now c.carry_control-fate.new.to_client) (sym (ap apdu_value c.in-Control.is)) (subst (λ (f : Fate). Grows (unless_cut f 6) 0 0 c.args.to_client.now c.carry_control-fate.new.to_client) (sym c.carry_control-fate.ensures.fate) c.carry_control-fate.ensures.client_grows)

pub returns-in-Control-clause-controller_grows : goal.returns-in-Control-clause-controller_grows
returns-in-Control-clause-controller_grows g c = subst (λ (a : ApduValue). Grows (unless_cut c.carry_control-fate.result (length (spelling a))) 0 0 c.args.to_controller.now c.carry_control-fate.new.to_controller) (sym (ap apdu_value c.in-Control.is)) (subst (λ (f : Fate). Grows (unless_cut f 6) 0 0 c.args.to_controller.now c.carry_control-fate.new.to_controller) (sym c.carry_control-fate.ensures.fate) c.carry_control-fate.ensures.controller_grows)

pub returns-in-Control-clause-desk : goal.returns-in-Control-clause-desk
returns-in-Control-clause-desk g c = logs_none _ c.requires.whole

pub carry_ack-fate-requires-clause-client_room : goal.carry_ack-fate-requires-clause-client_room
carry_ack-fate-requires-clause-client_room g c = room_less _ _ _ (omega arith) (subst (λ (a : ApduValue). HasRoom (length (spelling a)) c.args.to_client.now) (ap apdu_value c.in-Ack.is) c.requires.client_room)

pub carry_ack-fate-requires-clause-controller_room : goal.carry_ack-fate-requires-clause-controller_room
carry_ack-fate-requires-clause-controller_room g c = room_less _ _ _ (omega arith) (subst (λ (a : ApduValue). HasRoom (length (spelling a)) c.args.to_controller.now) (ap apdu_value c.in-Ack.is) c.requires.controller_room)

pub returns-in-Ack-clause-client_grows : goal.returns-in-Ack-clause-client_grows
returns-in-Ack-clause-client_grows g c = subst (λ (a : ApduValue). Grows (unless_cut c.carry_ack-fate.result (length (spelling a))) 0 0 c.args.to_client.now c.carry_ack-fate.new.to_client) (sym (ap apdu_value c.in-Ack.is)) c.carry_ack-fate.ensures.client_grows

pub returns-in-Ack-clause-controller_grows : goal.returns-in-Ack-clause-controller_grows
returns-in-Ack-clause-controller_grows g c = subst (λ (a : ApduValue). Grows (unless_cut c.carry_ack-fate.result (length (spelling a))) 0 0 c.args.to_controller.now c.carry_ack-fate.new.to_controller) (sym (ap apdu_value c.in-Ack.is)) c.carry_ack-fate.ensures.controller_grows

pub returns-in-Ack-clause-desk : goal.returns-in-Ack-clause-desk
returns-in-Ack-clause-desk g c = logs_none _ c.requires.whole

pub carry_control-fate-requires-clause-octets : goal.carry_control-fate-requires-clause-octets
carry_control-fate-requires-clause-octets g c = c.requires.octets ∙ ap spelling (ap apdu_value c.in-Control.is)

pub carry_info-fate-requires-clause-at_most : goal.carry_info-fate-requires-clause-at_most
carry_info-fate-requires-clause-at_most g c = (subst Fits (ap apdu_value c.in-Info.is) c.requires.fits).2

pub carry_info-fate-requires-clause-open : goal.carry_info-fate-requires-clause-open
carry_info-fate-requires-clause-open g c = subst (λ (s : Side). IsOpen s c.args.to_client.now c.args.to_controller.now) c.in-Controller.is c.requires.«open»

pub carry_info-fate-requires-clause-room : goal.carry_info-fate-requires-clause-room
carry_info-fate-requires-clause-room g c = room_less _ _ _ (omega arith) (subst (λ (a : ApduValue). HasRoom (length (spelling a)) c.args.to_client.now) (ap apdu_value c.in-Info.is) c.requires.client_room)

pub returns-in-Controller-clause-controller_grows : goal.returns-in-Controller-clause-controller_grows
returns-in-Controller-clause-controller_grows g c = grows_same _ _ _

pub returns-in-Controller-clause-desk : goal.returns-in-Controller-clause-desk
returns-in-Controller-clause-desk g c = logs_none _ c.requires.whole

pub take_command-requires-clause-at_most : goal.take_command-requires-clause-at_most
take_command-requires-clause-at_most g c = (subst Fits (ap apdu_value c.in-Info.is) c.requires.fits).2

pub take_command-requires-clause-open : goal.take_command-requires-clause-open
take_command-requires-clause-open g c = subst (λ (s : Side). IsOpen s c.args.to_client.now c.args.to_controller.now) c.in-Client.is c.requires.«open»

pub take_command-requires-clause-octets : goal.take_command-requires-clause-octets
take_command-requires-clause-octets g c = c.requires.octets ∙ ap spelling (ap apdu_value c.in-Info.is)

pub take_command-requires-clause-client_room : goal.take_command-requires-clause-client_room
take_command-requires-clause-client_room g c = room_less _ _ _ (omega arith) (subst (λ (a : ApduValue). HasRoom (length (spelling a)) c.args.to_client.now) (ap apdu_value c.in-Info.is) c.requires.client_room)

pub take_command-requires-clause-controller_room : goal.take_command-requires-clause-controller_room
take_command-requires-clause-controller_room g c = room_less _ _ _ (omega arith) (subst (λ (a : ApduValue). HasRoom (length (spelling a)) c.args.to_controller.now) (ap apdu_value c.in-Info.is) c.requires.controller_room)

pub returns-in-Client-clause-takes : goal.returns-in-Client-clause-takes
returns-in-Client-clause-takes g c = of_both _ _ _ _ c.in-Client.is (ap apdu_value c.in-Info.is) (λ s a. IfOk c.take_command.result (λ f. TakesApdu c.args.asset.now (says_by c.args.asset.now c.args.client.now.address c.args.rules.now c.args.moment) c.args.client.now c.args.moment s a f (numbered c.args.numbers.now c.args.to_client.now c.args.to_controller.now (DeskValue.lines (g.D.Desk.value c.args.desk.now))) (numbered c.take_command.new.numbers c.take_command.new.to_client c.take_command.new.to_controller (DeskValue.lines (g.D.Desk.value c.take_command.new.desk))))) c.take_command.ensures.takes

pub returns-in-Client-clause-misses : goal.returns-in-Client-clause-misses
returns-in-Client-clause-misses g c = of_both _ _ _ _ c.in-Client.is (ap apdu_value c.in-Info.is) (λ s a. OnErr c.take_command.result (MissesApdu c.args.asset.now (says_by c.args.asset.now c.args.client.now.address c.args.rules.now c.args.moment) c.args.client.now c.args.moment s a (numbered c.args.numbers.now c.args.to_client.now c.args.to_controller.now (DeskValue.lines (g.D.Desk.value c.args.desk.now))) (DeskValue.lines (g.D.Desk.value c.take_command.new.desk)) (DeskValue.line_part (g.D.Desk.value c.take_command.new.desk)))) c.take_command.ensures.misses

pub returns-in-Client-clause-desk : goal.returns-in-Client-clause-desk
returns-in-Client-clause-desk g c = c.take_command.ensures.desk
