-- The APDU: the main definition is SpellsApdu, read from the end.
-- IEC 60870-5-104, section 5: 68, the length of what follows (4 to 253), four control octets, and in the I format an ASDU.
-- Numbers have fifteen bits and stand one bit to the left, the low octet first.
use Rattle.std.specs.Prelude.{◌≡◌, ℕ, ◌+◌, ◌*◌, ◌<◌, ◌≤◌, ◌==◌, ◌||◌, nat_lt, if◌then◌else◌, Bool, true, List, [], ◌∷◌, ◌++◌, length}
use Rattle.cf_view.specs.Octets.{IsOctets, u16_le_octets}
use Rattle.cf_view.specs.declared.Break.{Break}
use Rattle.cf_view.specs.declared.Break.TheVariants as breaks
use Rattle.cf_apci.specs.declared.apdu.Apdu.{Apdu}
use Rattle.cf_apci.specs.declared.apdu.Apdu.TheVariants as apdus

-- an APDU without where it lies in memory: the formats I, S and U
pub data ApduValue : Type 0 where
  Info : (send receive : ℕ) → (asdu : List ℕ) → ApduValue
  Ack : (receive : ℕ) → ApduValue
  Control : (code : ℕ) → ApduValue

-- what a contract sees of an `Apdu`
abbrev pub apdu_value : Apdu → ApduValue
apdu_value (apdus.Info send receive asdu) = Info send receive asdu.bytes
apdu_value (apdus.Ack receive) = Ack receive
apdu_value (apdus.Control code) = Control code

-- STARTDT, STOPDT and TESTFR, each as act and con: what a U frame may tell
abbrev pub is_control : ℕ → Bool
is_control code = (code == 0x07) || ((code == 0x0b) || ((code == 0x13) || ((code == 0x23) || ((code == 0x43) || (code == 0x83)))))

-- the four octets of the control field
abbrev pub control_octets : ApduValue → List ℕ
control_octets (Info send receive asdu) = u16_le_octets (2 * send) ++ u16_le_octets (2 * receive)
control_octets (Ack receive) = 1 ∷ 0 ∷ u16_le_octets (2 * receive)
control_octets (Control code) = code ∷ 0 ∷ 0 ∷ 0 ∷ []

-- the ASDU of an I frame
abbrev pub asdu_of : ApduValue → List ℕ
asdu_of (Info send receive asdu) = asdu
asdu_of (Ack receive) = []
asdu_of (Control code) = []

-- the octets of an APDU: the start, the length of what follows, the control field and the ASDU
abbrev pub spelling : ApduValue → List ℕ
spelling a = 0x68 ∷ (length (asdu_of a) + 4) ∷ control_octets a ++ asdu_of a

-- the ranges of the fields
abbrev pub Fits : ApduValue → Type 0
Fits (Info send receive asdu) = (send < 32768) × (receive < 32768) × (length asdu ≤ 249) × IsOctets asdu
Fits (Ack receive) = receive < 32768
Fits (Control code) = is_control code ≡ true

-- the octets are this APDU
pub record SpellsApdu (a : ApduValue) (octets : List ℕ) : Type 0 where
  pub fits : Fits a
  pub spelled : octets ≡ spelling a

-- the break of a place
abbrev pub apdu_break : ℕ → Break
apdu_break place =
    if nat_lt place 1 then breaks.ApduStart else (if nat_lt place 2 then breaks.ApduLength else breaks.Control)
