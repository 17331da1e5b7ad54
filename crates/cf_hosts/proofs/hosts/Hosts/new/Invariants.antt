use Rattle.std.proofs.Common.{◌≡◌, length}
use Rattle.cf_hosts.proofs.hosts.Hosts.new.Given as goal

abbrev pub invariant-loop-session : goal.invariant-loop-session
invariant-loop-session l = length l.pairs.items ≡ l.session
