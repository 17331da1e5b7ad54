use Rattle.std.proofs.Common.{drop}
use Rattle.cf_ending.proofs.Spelled.{point_before}
use Rattle.cf_ending.proofs.spell.spell_fraction.Goals as goal

pub returns-clause-written : goal.returns-clause-written
returns-clause-written c =
    point_before c.args.n (drop c.args.end c.args.out.now) c.write_digits-start.new.buf c.write_digits-start.result c.requires.below
    c.write_digits-start.ensures.written
