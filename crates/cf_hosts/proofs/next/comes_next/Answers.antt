use Rattle.std.proofs.Common.{arith}
use Rattle.cf_hosts.proofs.Begun.{begins_next}
use Rattle.cf_hosts.proofs.next.comes_next.Goals as goal

pub returns-in_default : goal.returns-in_default
returns-in_default c =
    let begins = c.begins.ensures in
    begins_next c.args.begun c.args.sessions c.args.last c.args.losses c.moment_of.result c.begins.new.packet.items c.begins.result
    begins.sends (omega (arith, c.if-begun-sessions-2.true)) c.requires.sessions c.moment_of.ensures.later c.moment_of.ensures.soon begins.short begins.syn
