-- The mirror of a refused command: the main definition is mirror_of.
-- IEC 60870-5-101, section 7.2.3: causes 44 (unknown type identification) and 45 (unknown cause of transmission), the P/N bit 40
-- and the test bit 80. That these causes tell a refusal is this project's own.
use Rattle.std.specs.Prelude.{ℕ, ◌+◌, ◌*◌, ◌/◌, ◌%◌, ◌==◌, not, if◌then◌else◌, List, ◌∷◌, ◌++◌, take, drop, slice_index}
use Rattle.cf_asdu.specs.Asdu.{AsduValue, is_served}

-- activation confirmation for activation, deactivation confirmation for deactivation, unknown cause for any other
abbrev pub mirror_cause : ℕ → ℕ → ℕ
mirror_cause kind cause =
    if not (is_served kind) then 44 else (if cause == 6 then 7 else (if cause == 8 then 9 else 45))

-- the octet of the cause: the T bit as it was, the P/N bit set, another cause
abbrev pub mirror_octet : ℕ → ℕ → ℕ
mirror_octet kind octet = octet / 128 * 128 + 64 + mirror_cause kind (octet % 64)

-- all else stays
abbrev pub mirror_of : AsduValue → AsduValue
mirror_of a = record a { cause = mirror_octet a.kind a.cause }

-- the octets with another third one
abbrev pub mirrored : List ℕ → List ℕ
mirrored octets =
    take 2 octets ++ mirror_octet (slice_index octets 0) (slice_index octets 2) ∷ drop 3 octets
