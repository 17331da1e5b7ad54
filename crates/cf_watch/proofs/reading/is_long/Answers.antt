use Rattle.cf_watch.proofs.Lengths.{read_past}
use Rattle.cf_watch.specs.declared.fault.TheConstants.{CAPTURE_LIMIT}
use Rattle.cf_watch.proofs.reading.is_long.Goals as goal

pub returns-in-Got-clause-long : goal.returns-in-Got-clause-long
returns-in-Got-clause-long g c = λ is.
    let bytes = c.in-Got.ensures.bytes in
    read_past (g.F.Files.content c.args.files.now c.args.name.now) CAPTURE_LIMIT c.in-Got.field-0 _ bytes.0 bytes.1 bytes.2
