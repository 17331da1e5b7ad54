use Rattle.cf_view.proofs.Units.{one_units_then_break, one_units_then_rest, rest_not_break, units_exist}
use Rattle.cf_modbus.specs.Adu.{SpellsAdu}
use Rattle.cf_modbus.proofs.Framing.{prefix_free}
use Rattle.cf_modbus.proofs.Fronts.{adu_front}
use Rattle.cf_modbus.proofs.adu.each_stream_has_adus.Goals as goal

pub returns : goal.returns
returns c = record {
  front = adu_front;
  units = units_exist SpellsAdu adu_front;
  one_rest = one_units_then_rest SpellsAdu prefix_free;
  one_break = one_units_then_break SpellsAdu prefix_free;
  either = λ us vs stream rest place a b. rest_not_break SpellsAdu prefix_free us vs stream rest place a b;
}
