-- Steps of the proof: which octet may stand at a place of an APDU, after the octets before it (`follows`), and how long the APDU is
-- (`size_of`).
use Rattle.std.specs.Prelude.{ℕ, ◌+◌, ◌/◌, ◌%◌, ◌==◌, ◌&&◌, ◌||◌, nat_lt, nat_le, max, if◌then◌else◌, Bool, true, List, length, drop}
use Rattle.std.specs.Prelude.{slice_index}
use Rattle.cf_view.specs.Octets.{u16_le_at}
use Rattle.cf_apci.specs.Apdu.{ApduValue, Info, Ack, Control, is_control}

-- the size of the APDU that the octets begin; the least one where they do not tell it
abbrev pub size_of : List ℕ → ℕ
size_of octets = if nat_lt (length octets) 2 then 6 else max 6 (slice_index octets 1 + 2)

-- the first control octet of an APDU of this length, by its format: I, or S and U, which have no ASDU
abbrev pub is_format : ℕ → ℕ → Bool
is_format len octet = (octet % 2 == 0) || ((len == 4) && ((octet == 1) || is_control octet))

-- the second, after a first one: any in I
abbrev pub is_second : ℕ → ℕ → Bool
is_second format octet = (format % 2 == 0) || (octet == 0)

-- the third: even in I and S, 0 in U
abbrev pub is_third : ℕ → ℕ → Bool
is_third format octet = if (format % 2 == 0) || (format == 1) then octet % 2 == 0 else octet == 0

-- the fourth: any in I and S
abbrev pub is_fourth : ℕ → ℕ → Bool
is_fourth format octet = (format % 2 == 0) || ((format == 1) || (octet == 0))

abbrev pub is_right : List ℕ → ℕ → ℕ → Bool
is_right octets place octet =
    if place == 0 then octet == 0x68 else
    (if place == 1 then nat_le 4 octet && nat_le octet 253 else
    (if place == 2 then is_format (slice_index octets 1) octet else
    (if place == 3 then is_second (slice_index octets 2) octet else
    (if place == 4 then is_third (slice_index octets 2) octet else
    (if place == 5 then is_fourth (slice_index octets 2) octet else true)))))

abbrev pub follows : List ℕ → ℕ → Bool
follows before octet = is_right before (length before) octet

abbrev pub fields_of : List ℕ → ApduValue
fields_of octets =
    if slice_index octets 2 % 2 == 0 then Info (u16_le_at octets 2 / 2) (u16_le_at octets 4 / 2) (drop 6 octets)
    else (if slice_index octets 2 == 1 then Ack (u16_le_at octets 4 / 2) else Control (slice_index octets 2))
