use Rattle.std.proofs.Common.{Ok, take}
use Rattle.cf_records.proofs.Finding.{not_opened}
use Rattle.cf_records.proofs.Forms.{has_form}
use Rattle.cf_records.proofs.record_reader.RecordReader.open_in.Goals as goal

pub returns-in-Err-clause-opened : goal.returns-in-Err-clause-opened
returns-in-Err-clause-opened g c =
    not_opened c.args.kinds (g.F.Files.content c.args.files.now c.args.name.now) (take c.in-Some.have c.fill.new.buffer) c.in-Err.fault c.in-Some.ensures.filled c.in-Err.ensures

pub returns-clause-opened : goal.returns-clause-opened
returns-clause-opened g c = (
  has_form c.args.kinds (g.F.Files.content c.args.files.now c.args.name.now) (take c.in-Some.have c.fill.new.buffer) (Ok c.in-Ok.form) c.in-Some.ensures.filled c.in-Ok.ensures,
  c.first_place.ensures,
)
