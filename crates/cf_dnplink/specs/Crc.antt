-- The CRC of DNP3, `crc_of`: the polynomial 3D65, that is x^16 + x^13 + x^12 + x^11 + x^10 + x^8 + x^6 + x^5 + x^2 + 1, with
-- its bits reflected (A6BC); it starts at 0 and is complemented. IEEE 1815-2012, section 9.2.4.
use Rattle.std.specs.Prelude.{ℕ, zero, suc, ◌-◌, ◌/◌, ◌%◌, ◌==◌, List, if◌then◌else◌, bit_xor, fold}

-- one bit
abbrev pub round : ℕ → ℕ
round register = if register % 2 == 1 then bit_xor (register / 2) 0xa6bc else register / 2

-- n bits
unfoldable pub rounds : ℕ → ℕ → ℕ
rounds zero register = register
rounds (suc n) register = rounds n (round register)

-- an octet, its lowest bit first
unfoldable pub after_octet : ℕ → ℕ → ℕ
after_octet register octet = rounds 8 (bit_xor register octet)

-- the CRC of some octets
abbrev pub crc_of : List ℕ → ℕ
crc_of octets = 0xffff - fold after_octet 0 octets
