use Rattle.std.proofs.Common.{ap, arith, length}
use Rattle.cf_lane.proofs.Taking.{grows_pushed, grows_same, room_less}
use Rattle.cf_lane.proofs.iec104.carry.carry_control.Goals as goal

pub push_octets-requires-clause-room : goal.push_octets-requires-clause-room
push_octets-requires-clause-room c = room_less _ _ _ (omega (arith, ap length c.requires.octets)) c.requires.controller_room

pub push_octets-requires-in-Controller-clause-room : goal.push_octets-requires-in-Controller-clause-room
push_octets-requires-in-Controller-clause-room c = room_less _ _ _ (omega (arith, ap length c.requires.octets)) c.requires.client_room

pub returns-in-Client-clause-client_grows : goal.returns-in-Client-clause-client_grows
returns-in-Client-clause-client_grows c = grows_same _ _ _

pub returns-in-Client-clause-controller_grows : goal.returns-in-Client-clause-controller_grows
returns-in-Client-clause-controller_grows c = grows_pushed _ _ _ _ c.push_octets.ensures.queue c.requires.octets

pub returns-in-Controller-clause-client_grows : goal.returns-in-Controller-clause-client_grows
returns-in-Controller-clause-client_grows c = grows_pushed _ _ _ _ c.push_octets-in-Controller.ensures.queue c.requires.octets

pub returns-in-Controller-clause-controller_grows : goal.returns-in-Controller-clause-controller_grows
returns-in-Controller-clause-controller_grows c = grows_same _ _ _
