use Rattle.std.proofs.Common.{◌<◌, IfSome}
use Rattle.cf_hosts.proofs.hosts.Hosts.first_voice.Given as goal

abbrev pub invariant-loop-session : goal.invariant-loop-session
invariant-loop-session l = IfSome l.first (λ voice. voice.session < l.session)
