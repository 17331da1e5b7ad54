use Rattle.cf_stream.specs.FirstCopy.{first_copy}
use Rattle.std.proofs.Common.{◌++◌}
use Rattle.cf_stream.proofs.FirstCopy.{first_copy-append}
use Rattle.cf_stream.proofs.Taken.{taken_extends}
use Rattle.cf_stream.proofs.laws.taken_only_grows.Goals as goal

pub returns : goal.returns
returns c = λ newer earlier s t h g. taken_extends (first_copy earlier) (first_copy (newer ++ earlier)) (first_copy-append newer earlier) s t h g
