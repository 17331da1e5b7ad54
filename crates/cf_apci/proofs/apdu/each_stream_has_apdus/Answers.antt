use Rattle.cf_view.proofs.Units.{units_exist, one_units_then_rest, one_units_then_break, rest_not_break}
use Rattle.cf_apci.specs.Apdu.{SpellsApdu}
use Rattle.cf_apci.proofs.Fronts.{apdus_free, apdu_front}
use Rattle.cf_apci.proofs.apdu.each_stream_has_apdus.Goals as goal

pub returns : goal.returns
returns c =
    record {
      front = apdu_front;
      units = units_exist SpellsApdu apdu_front;
      one_rest = one_units_then_rest SpellsApdu apdus_free;
      one_break = one_units_then_break SpellsApdu apdus_free;
      rest_or_break = rest_not_break SpellsApdu apdus_free;
    }
