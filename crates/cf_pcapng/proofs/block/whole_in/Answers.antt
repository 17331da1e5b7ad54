use Rattle.std.proofs.Common.{sym, ap, ◌∙◌}
use Rattle.cf_pcapng.specs.Block.{last_of}
use Rattle.cf_pcapng.proofs.block.whole_in.Goals as goal

pub returns-in-Interface-clause-found : goal.returns-in-Interface-clause-found
returns-in-Interface-clause-found c =
    c.interface_in.ensures.found c.args.kinds
    ∙ ap (last_of c.args.kinds c.args.interfaces.now c.args.big_endian c.args.bytes.now) (sym c.in-Interface.is ∙ c.kind_in.ensures)
