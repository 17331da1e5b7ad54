use Rattle.std.proofs.Common.{◌≡◌, ◌∙◌, Some, ap}
use Rattle.cf_packet.specs.Ipv4.{payload}
use Rattle.cf_packet.specs.Packet.{read_payload}
use Rattle.cf_packet.specs.Recorded.{recorded_payload}
use Rattle.cf_packet.proofs.Addressed.{read_goes, recorded_goes}
use Rattle.cf_packet.proofs.dest.destination.Goals as goal

pub returns-in-Some-clause-read : goal.returns-in-Some-clause-read
returns-in-Some-clause-read c p e =
    let packet = c.in-Some.packet.now in
    let is : Some packet ≡ payload c.args.link.now c.args.bytes.now = c.in-Some.ensures in
    let goes = read_goes packet p (ap read_payload is ∙ e) in
    c.destination_in.ensures goes.0 goes.1 ∙ ap Some goes.2

pub returns-in-Some-clause-recorded : goal.returns-in-Some-clause-recorded
returns-in-Some-clause-recorded c p e =
    let packet = c.in-Some.packet.now in
    let is : Some packet ≡ payload c.args.link.now c.args.bytes.now = c.in-Some.ensures in
    let goes = recorded_goes packet p (ap recorded_payload is ∙ e) in
    c.destination_in.ensures goes.0 goes.1 ∙ ap Some goes.2
