use Rattle.cf_view.proofs.Units.{one_units_then_break, one_units_then_rest, rest_not_break, units_exist}
use Rattle.cf_dnplink.specs.LinkFrame.{SpellsFrame}
use Rattle.cf_dnplink.proofs.Frames.{spelled_free, spelled_front}
use Rattle.cf_dnplink.proofs.frame.each_stream_has_frames.Goals as goal

pub returns : goal.returns
returns c = record {
  front = spelled_front;
  units = units_exist SpellsFrame spelled_front;
  one_rest = one_units_then_rest SpellsFrame spelled_free;
  one_break = one_units_then_break SpellsFrame spelled_free;
  either = λ us vs stream rest place a b. rest_not_break SpellsFrame spelled_free us vs stream rest place a b;
}
