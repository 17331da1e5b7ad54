-- Each act of a command that the reader of a protocol reads is in the table of the protocol.
use Rattle.std.proofs.Common.{◌≡◌, true}
use Rattle.cf_view.specs.declared.base.Act.{Act}
use Rattle.cf_policy.specs.declared.policy.Protocol.{Protocol}
use Rattle.cf_policy.specs.declared.policy.Protocol.TheVariants.{Modbus, Dnp3, Iec104}
use Rattle.cf_acts.specs.Acts.{can_have}
use Rattle.cf_acts.specs.Commands.{IsOfCommand}
use Rattle.cf_acts.proofs.OfRequests.{request_acts_in}
use Rattle.cf_acts.proofs.OfFragments.{fragment_acts_in}
use Rattle.cf_acts.proofs.OfAsdus.{asdu_acts_in}

pub command_acts_in : (p : Protocol) (act : Act) → IsOfCommand p act → can_have p act ≡ true
command_acts_in Modbus act of = request_acts_in act of
command_acts_in Dnp3 act of = fragment_acts_in act of
command_acts_in Iec104 act of = asdu_acts_in act of
