use Rattle.std.proofs.Common.{refl}
use Rattle.cf_box.proofs.Back.{back_eight, back_few, back_iec104, back_modbus, back_more}
use Rattle.cf_box.proofs.numbers.numbers_are.Goals as goal

pub returns : goal.returns
returns c = record {
  magics = record { microseconds = refl; nanoseconds = refl };
  blocks = record { section = refl; byte_order = refl; interface = refl; packet = refl };
  refusals = record { length = refl; block = refl; section = refl; interface = refl; resolution = refl };
  cells = record { most = refl; cells = λ ours other. refl };
  learned = record {
    runs = λ part next full. full;
    more = λ seen many. many.many;
    too_many = λ seen sorted same ascends many. record { sorted = sorted; same = same; ascends = ascends; many = many };
  };
  bytes = refl;
  back = record { modbus = back_modbus; iec104 = back_iec104; few = back_few; more = back_more; eight = back_eight };
  shown = refl;
  name = refl;
}
