use Rattle.std.proofs.Common.{◌≡◌}
use Rattle.cf_links.proofs.memory_links.MemoryLinks.ready_from.Given as goal

abbrev pub invariant-loop-at : goal.invariant-loop-at
invariant-loop-at l = l.self ≡ record l.fn.self { clients = l.self.clients }
