use Rattle.cf_leg.proofs.Streams.{along_run, carried_of}
use Rattle.cf_leg.proofs.runs.segments_carry_one_stream.Goals as goal

pub returns : goal.returns
returns c = record {
  one = λ ends es whole r. (along_run ends es whole r).one;
  first = carried_of;
  all = λ ends es whole place r l. (along_run ends es whole r).some place l;
}
