-- The table of objects, `layout_of`: which function codes take which objects with which qualifiers. IEEE 1815-2012, sections 4.2.2
-- (qualifier codes and ranges) and 4.4 (function codes), and annex A (objects). Which of them are served is this project's own.
use Rattle.std.specs.Prelude.{ℕ, ◌+◌, ◌*◌, ◌/◌, ◌==◌, ◌&&◌, ◌||◌, nat_le, Bool, if◌then◌else◌, Option, Some, None}
use Rattle.cf_dnpobj.specs.declared.object.Layout.{Layout}
use Rattle.cf_dnpobj.specs.declared.object.Layout.TheVariants as layout

-- 0 confirm, 1 read, 2 write, 3 select, 4 operate, 5 direct operate, 6 direct operate without reply, 7 to 10 immediate freeze
-- and freeze and clear, with and without reply, 13 and 14 cold and warm restart, 20 and 21 unsolicited responses on and off,
-- 22 assign class, 23 delay measurement, 24 record current time
abbrev pub is_function : ℕ → Bool
is_function code = nat_le code 10 || ((code == 13) || ((code == 14) || (nat_le 20 code && nat_le code 24)))

-- select, operate, direct operate, and direct operate without reply: their objects are controls
abbrev pub is_command : ℕ → Bool
is_command code = nat_le 3 code && nat_le code 6

-- write
abbrev pub is_write : ℕ → Bool
is_write code = code == 2

-- the object has this group and this variation
abbrev pub is_object : ℕ → ℕ → ℕ → ℕ → Bool
is_object group variation g v = (group == g) && (variation == v)

-- The table: the objects that a code takes, and how they lie. Controls have their octets after an index, written objects have
-- theirs one after the other or are bits, and the objects of every other code are only named.
abbrev pub layout_of : ℕ → ℕ → ℕ → Option Layout
layout_of code group variation =
    if is_command code then
    (if is_object group variation 12 1 then Some (layout.Indexed 11) else
    (if is_object group variation 41 1 then Some (layout.Indexed 5) else
    (if is_object group variation 41 2 then Some (layout.Indexed 3) else
    (if is_object group variation 41 3 then Some (layout.Indexed 5) else
    (if is_object group variation 41 4 then Some (layout.Indexed 9) else None)))))
    else
    (if is_write code then
    (if is_object group variation 50 1 then Some (layout.Listed 6) else
    (if is_object group variation 50 3 then Some (layout.Listed 6) else
    (if is_object group variation 80 1 then Some layout.Packed else None)))
    else Some layout.Named)

-- 00 and 01: a start and a stop, of one and two octets
abbrev pub is_span : ℕ → Bool
is_span q = (q == 0x00) || (q == 0x01)

-- 06: no range, all points
abbrev pub is_all : ℕ → Bool
is_all q = q == 0x06

-- 07 and 08: a count, of one and two octets
abbrev pub is_counted : ℕ → Bool
is_counted q = (q == 0x07) || (q == 0x08)

-- 17 and 28: a count, and before each object an index, of one and two octets
abbrev pub is_indexed : ℕ → Bool
is_indexed q = (q == 0x17) || (q == 0x28)

-- the qualifiers of each layout
abbrev pub takes : Layout → ℕ → Bool
takes (layout.Indexed size) q = is_indexed q
takes (layout.Listed size) q = is_counted q
takes layout.Packed q = is_span q
takes layout.Named q = is_span q || (is_all q || (is_counted q || is_indexed q))

-- the octets of one number of the range
abbrev pub width : ℕ → ℕ
width q = if is_all q then 0 else (if (q == 0x00) || ((q == 0x07) || (q == 0x17)) then 1 else 2)

-- the octets of the range
abbrev pub range_size : ℕ → ℕ
range_size q = if is_span q then 2 * width q else width q

-- the octets of the index before an object
abbrev pub index_size : ℕ → ℕ
index_size q = if is_indexed q then width q else 0

-- the octets of count objects with their indexes
abbrev pub objects_size : Layout → ℕ → ℕ → ℕ
objects_size (layout.Indexed size) q count = count * (index_size q + size)
objects_size (layout.Listed size) q count = count * size
objects_size layout.Packed q count = (count + 7) / 8
objects_size layout.Named q count = count * index_size q
