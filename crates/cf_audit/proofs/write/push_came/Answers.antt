use Rattle.std.proofs.Common.{append_assoc}
use Rattle.cf_audit.proofs.write.push_came.Goals as goal

pub returns-clause-bytes : goal.returns-clause-bytes
returns-clause-bytes g c = simp (c.push_number.ensures.bytes, c.push_str-2.ensures.bytes, c.push_str.ensures.bytes, append_assoc)
