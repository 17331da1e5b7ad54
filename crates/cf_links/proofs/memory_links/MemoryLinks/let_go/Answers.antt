use Rattle.std.proofs.Common.{arith, false, ◌≡◌, ◌≤◌, ◌+◌, vec_capacity, vec_len}
use Rattle.std.proofs.Math.ListN.{set}
use Rattle.cf_links.specs.MemoryLinks.{open_count}
use Rattle.cf_links.proofs.Room.{gone_now, open_less, others_stand, room_of, stands_of}
use Rattle.cf_links.proofs.memory_links.MemoryLinks.let_go.Goals as goal

pub returns-clause-room : goal.returns-clause-room
returns-clause-room c =
    let room : vec_len c.args.self.now.told + open_count c.args.self.now.stands.items ≤ vec_capacity c.args.self.now.told =
    room_of c.args.self.now c.args.session c.requires.serves in
    let less : open_count (set c.args.self.now.stands.items c.args.session false) + 1 ≡ open_count c.args.self.now.stands.items =
    open_less c.args.self.now.stands.items c.args.session (stands_of c.args.self.now c.args.session c.requires.serves) in
    omega arith

pub returns-clause-gone : goal.returns-clause-gone
returns-clause-gone c = gone_now c.args.self.now.stands.items c.args.session (stands_of c.args.self.now c.args.session c.requires.serves)

pub returns-clause-others : goal.returns-clause-others
returns-clause-others c = others_stand c.args.self.now.stands.items c.args.session
