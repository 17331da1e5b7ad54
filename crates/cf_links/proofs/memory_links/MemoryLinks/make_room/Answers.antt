use Rattle.std.proofs.Common.{arith, length, ◌≤◌}
use Rattle.cf_links.specs.MemoryLinks.{open_count}
use Rattle.cf_links.proofs.Room.{open_le}
use Rattle.cf_links.proofs.memory_links.MemoryLinks.make_room.Goals as goal

pub returns-in-Ok-clause-ok : goal.returns-in-Ok-clause-ok
returns-in-Ok-clause-ok c =
    let few : open_count c.args.self.now.stands.items ≤ length c.args.self.now.stands.items = open_le c.args.self.now.stands.items in
    omega (arith, c.in-Ok.ensures.ok, c.len.ensures)
