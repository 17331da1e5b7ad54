use Rattle.std.proofs.Common.{◌≡◌, length, ◌-◌, ◌≤◌}
use Rattle.cf_hosts.specs.declared.end.Said.TheVariants as say
use Rattle.cf_hosts.proofs.end.HostEnd.take.Given as goal

abbrev pub invariant-units : goal.invariant-units
invariant-units l = record {
  inside : l.place ≤ length l.text;
  free : l.self.said ≡ say.Nothing;
}

abbrev pub decreases-units : goal.decreases-units
decreases-units l = length l.text - l.place
