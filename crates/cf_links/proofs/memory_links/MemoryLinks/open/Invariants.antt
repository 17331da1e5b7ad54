use Rattle.std.proofs.Common.{take, ◌≡◌, ◌≤◌}
use Rattle.cf_links.specs.MemoryLinks.{open_count}
use Rattle.cf_links.proofs.memory_links.MemoryLinks.open.Given as goal

abbrev pub invariant-loop-stands : goal.invariant-loop-stands
invariant-loop-stands l = (l.open ≡ open_count (take l.stands-index l.fn.self.stands.items)) × (l.open ≤ l.stands-index)
