use Rattle.std.proofs.Common.{[], refl}
use Rattle.cf_watch.proofs.AllKept.{has_all}
use Rattle.cf_watch.proofs.recorder.Recorder.new.Goals as goal

pub returns : goal.returns
returns c = λ scope assets. record {
  heard = has_all scope 0 c.new.result [] [] (c.new.ensures.none scope) c.new.ensures.all;
  all = c.new.ensures.all;
  count = refl;
  stamped = λ recording. c.new-2.ensures.items;
}
