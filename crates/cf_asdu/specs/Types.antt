-- The type identifications of commands, and the information element of each: the main definition is element_of.
-- IEC 60870-5-104, section 8, and IEC 60870-5-101, sections 7.3.2, 7.3.4 and 7.3.5. That no number is read of short floating
-- point numbers and of the read, clock and test commands is this project's own.
use Rattle.std.specs.Prelude.{ℕ, ◌+◌, ◌%◌, ◌==◌, if◌then◌else◌, nat_lt, List, slice_index, Option, Some, None, ℤ, pos, ◌-ℤ◌}
use Rattle.cf_view.specs.Octets.{u16_le_at, u32_le_at}
use Rattle.cf_asdu.specs.declared.element.Element.{Element}
use Rattle.cf_asdu.specs.declared.element.Number.{Number}
use Rattle.cf_asdu.specs.declared.element.Number.TheVariants as numbers

-- an element of this many octets, with this number
abbrev pub element : ℕ → Number → Option Element
element octets number = Some (record { octets = octets; number = number })

-- an element with seven octets of time after it
abbrev pub with_time : ℕ → Number → Option Element
with_time octets number = element (octets + 7) number

-- the element of a type identification: the number of its octets, the qualifier among them, and the number that it writes
abbrev pub element_of : ℕ → Option Element
element_of kind =
    -- single, double and regulating step command; set-point, normalized, scaled and floating; bitstring
    if kind == 45 then element 1 numbers.Bit else
    (if kind == 46 then element 1 numbers.TwoBits else
    (if kind == 47 then element 1 numbers.TwoBits else
    (if kind == 48 then element 3 numbers.Signed else
    (if kind == 49 then element 3 numbers.Signed else
    (if kind == 50 then element 5 numbers.Absent else
    (if kind == 51 then element 4 numbers.Unsigned else
    -- the same with time
    (if kind == 58 then with_time 1 numbers.Bit else
    (if kind == 59 then with_time 1 numbers.TwoBits else
    (if kind == 60 then with_time 1 numbers.TwoBits else
    (if kind == 61 then with_time 3 numbers.Signed else
    (if kind == 62 then with_time 3 numbers.Signed else
    (if kind == 63 then with_time 5 numbers.Absent else
    (if kind == 64 then with_time 4 numbers.Unsigned else
    -- interrogation, counter interrogation, read, clock, reset of the process, test with time
    (if kind == 100 then element 1 numbers.Octet else
    (if kind == 101 then element 1 numbers.Octet else
    (if kind == 102 then element 0 numbers.Absent else
    (if kind == 103 then element 7 numbers.Absent else
    (if kind == 105 then element 1 numbers.Octet else
    (if kind == 107 then with_time 2 numbers.Absent else
    -- parameter of a measured value, normalized, scaled and floating; parameter activation
    (if kind == 110 then element 3 numbers.Signed else
    (if kind == 111 then element 3 numbers.Signed else
    (if kind == 112 then element 5 numbers.Absent else
    (if kind == 113 then element 1 numbers.Octet else None)))))))))))))))))))))))

-- the octets that a number takes
abbrev pub number_octets : Number → ℕ
number_octets numbers.Bit = 1
number_octets numbers.TwoBits = 1
number_octets numbers.Octet = 1
number_octets numbers.Signed = 2
number_octets numbers.Unsigned = 4
number_octets numbers.Absent = 0

-- a number of 16 bits, the top one of which is its sign
abbrev pub signed : ℕ → ℤ
signed n = if nat_lt n 32768 then pos n else pos n -ℤ pos 65536

-- the number of the element that begins at a place
abbrev pub number_at : Number → List ℕ → ℕ → Option ℤ
number_at numbers.Bit octets place = Some (pos (slice_index octets place % 2))
number_at numbers.TwoBits octets place = Some (pos (slice_index octets place % 4))
number_at numbers.Octet octets place = Some (pos (slice_index octets place))
number_at numbers.Signed octets place = Some (signed (u16_le_at octets place))
number_at numbers.Unsigned octets place = Some (pos (u32_le_at octets place))
number_at numbers.Absent octets place = None
