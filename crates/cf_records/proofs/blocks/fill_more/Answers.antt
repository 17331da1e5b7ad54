use Rattle.std.proofs.Common.{arith}
use Rattle.cf_records.proofs.BlockPieces.{filled_all, filled_first, filled_less}
use Rattle.cf_records.proofs.blocks.fill_more.Goals as goal

pub returns-then-size-have-clause-filled : goal.returns-then-size-have-clause-filled
returns-then-size-have-clause-filled g c =
    filled_less (g.F.Files.content c.args.files.now c.args.name.now) c.args.place c.args.have c.args.size c.args.buffer.now c.if-size-have.true c.requires.have c.requires.first

pub returns-then-have-lt-TOLD_OCTETS-clause-filled : goal.returns-then-have-lt-TOLD_OCTETS-clause-filled
returns-then-have-lt-TOLD_OCTETS-clause-filled g c =
    filled_all (g.F.Files.content c.args.files.now c.args.name.now) c.args.place c.args.have c.args.size c.args.buffer.now
    (omega arith) (omega arith) (omega arith) c.requires.first

pub fill-requires-clause-begun : goal.fill-requires-clause-begun
fill-requires-clause-begun g c =
    filled_first (g.F.Files.content c.args.files.now c.args.name.now) c.args.place c.args.have c.args.buffer.now (omega arith) (omega arith) c.requires.first
