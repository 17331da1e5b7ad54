-- What a command does: `acts`, an act for each information object, in order. IEC 60870-5-101, section 7.2.5: an information object
-- address of three octets, the low one first. That a command is judged by acts, and the group of an act, are this project's own.
use Rattle.std.specs.Prelude.{ℕ, ◌+◌, ◌*◌, ◌%◌, List, [], map, Option, Some, None}
use Rattle.std.specs.List.{range_with_len}
use Rattle.cf_view.specs.declared.Act.{Act}
use Rattle.cf_view.specs.Octets.{u24_le_at}
use Rattle.cf_asdu.specs.declared.element.Element.{Element}
use Rattle.cf_asdu.specs.Asdu.{AsduValue}
use Rattle.cf_asdu.specs.Types.{element_of, number_at}

-- the place at which object number i begins, of objects that have an address and an element each
abbrev pub object_place : Element → ℕ → ℕ
object_place e i = i * (3 + e.octets)

-- the act of object number i: the type, the cause without P/N and T, the address, and the number that is written
abbrev pub act_of : AsduValue → Element → ℕ → Act
act_of a e i =
    record {
      code = a.kind;
      group = a.cause % 64;
      point = u24_le_at a.objects (object_place e i);
      value = number_at e.number a.objects (object_place e i + 3);
    }

-- an act for each information object of a type with this element, and none of a type that is not served
abbrev pub acts_by : Option Element → AsduValue → List Act
acts_by None a = []
acts_by (Some e) a = map (act_of a e) (range_with_len 0 a.number)

-- the acts of an ASDU, by the element of its type
unfoldable pub acts : AsduValue → List Act
acts a = acts_by (element_of a.kind) a
